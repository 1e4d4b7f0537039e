-- Calls of a compiled program have one meaning.
use Rattle.std.proofs.Common.{◌≡◌, inl, inr, ◌<◌, ℕ, List, Bool, true, false, Option, Some, None, slice_get, refl, sym, ◌∙◌, ap, subst}
use Rattle.std.specs.Prelude.{unwrap_or}
use Rattle.std.specs.Option.{option_map, option_map_or}
use Rattle.std.proofs.lemmas.Bool.{or_parts}
use Rattle.std.proofs.lemmas.Option.{slice_get-map}
use Rattle.isle_ast.specs.Positions.Files.{SourceFile}
use Rattle.isle_types.proofs.Zipped.{all_at}
use Rattle.isle_rules.specs.declared.terms.Term.{Term}
use Rattle.isle_rules.specs.declared.terms.TermKind.{TermKind}
use Rattle.isle_rules.specs.declared.terms.TermKind.TheVariants.{EnumVariant, Struct, Decl}
use Rattle.isle_rules.specs.Definitions.{declared_by}
use Rattle.isle_rules.specs.Signatures.{Signature, flags_of}
use Rattle.isle_rules.specs.Shown.ShownTerms.{term_shown, form_shown}
use Rattle.isle_rules.specs.SoundRules.WellTyped.{IsTypedRule}
use Rattle.isle_rules.specs.TypedRules.{TypedRule}
use Rattle.isle_meaning.specs.Demands.{Demand}
use Rattle.isle_meaning.specs.Facts.{TermFacts, no_term}
use Rattle.isle_meaning.specs.Faults.{MayOverlap, Overlaps}
use Rattle.isle_meaning.specs.Demands.{DemandOf}
use Rattle.isle_meaning.specs.Values.{Values}
use Rattle.isle_meaning.specs.Answers.{Completion}
use Rattle.isle_meaning.specs.Worlds.{CheckedProgram, Answers}
use Rattle.isle_meaning.specs.Calls.{Agrees, CoversAll, Means}
use Rattle.isle_meaning.specs.SoundPrograms.{IsSound}
use Rattle.isle_rules.proofs.Sound.RuleTypes.{rules_typed}
use Rattle.isle_rules.specs.Shown.TermTables.{is_multi_kind, is_multi_in}
use Rattle.isle_blocks.specs.RuleFaults.{AreFaultless, MayMatch}
use Rattle.isle_program.specs.declared.program.Program.{Program}
use Rattle.isle_meaning.specs.Laws.Calls.{HasNoOverlaps, HasNoTies, CallsOnly, FailsWherePartial, ExprCalls, Surely}
use Rattle.isle_program.specs.Compiled.{IsProgramOf, max_levels, max_nodes}
use Rattle.isle_run.specs.Laws.Compiled.{every_term, FaultlessRulesHaveNoTies, CompiledMeaningsAreOne, PremisesCanBeMet}
use Rattle.isle_program.specs.Meanings.{checked}
use Rattle.isle_program.specs.Programs.{types_of, terms_of}
use Rattle.isle_meaning.specs.DefinedPrograms.{defined_program}
use Rattle.isle_run.specs.Laws.Sound.{RunsIn}
use Rattle.isle_run.proofs.Chains.Sound.{compiled_programs_are_sound}
use Rattle.isle_program.specs.Facts.Inhabited.{AreAllInhabited}
use Rattle.isle_meaning.proofs.Chains.Always.{meanings_are, covering_at}
use Rattle.isle_meaning.proofs.Chains.Growing.{open_completion, open_agrees, GivesGood}
use Rattle.isle_meaning.proofs.Chains.Surely.{surely, follows}
use Rattle.isle_meaning.proofs.Chains.Unique.{One}
use Rattle.isle_meaning.proofs.Chains.Elaborated.{no_ties, typed_rules_call_well}
use Rattle.isle_meaning.proofs.Chains.Ends.{below_or_above}
use Rattle.isle_run.proofs.Chains.Inhabiting.{inhabited_programs_have_values}
use Rattle.isle_meaning.proofs.Chains.Totals.{any_patterns, any_iflets, any_expr}

-- what differs one way differs the other way
other_way : (D E : Demand → Type 0) → MayOverlap D E → MayOverlap E D
other_way D E h d = h (record {
  site = d.site;
  one = d.other;
  other = d.one;
  has_one = d.has_other;
  has_other = d.has_one;
  apart = λ e. d.apart (sym e);
})

module _ (p : CheckedProgram) (faultless : AreFaultless p.terms p.rules) where
  -- a rule may match
  may_match : (i : ℕ) (rule : TypedRule) → slice_get p.rules i ≡ Some rule → MayMatch p.terms rule
  may_match i rule at never = faultless.reachable i (record { rule = rule; at = at; never = never })

  -- rules in order don't overlap
  apart_in_order : (i j : ℕ) (one other : TypedRule) → slice_get p.rules i ≡ Some one → slice_get p.rules j ≡ Some other → i < j
      → one.root ≡ other.root → p.terms.multi one.root ≡ false
      → Overlaps (DemandOf p.terms one) one.priority (DemandOf p.terms other) other.priority → ⊥
  apart_in_order i j one other h k less root single overlap = faultless.apart i j (record {
    rivals = record {
      term = one.root;
      first = record { rule = one; at = h; of_term = refl; may = may_match i one h };
      second = record { rule = other; at = k; of_term = sym root; may = may_match j other k };
      single = single;
    };
    in_order = less;
    overlap = overlap;
  })

  -- nor do others of terms without `multi`
  pub none_overlap : (R : ℕ → Type 0) → ((t : ℕ) → R t → p.terms.multi t ≡ false) → HasNoOverlaps p R
  none_overlap R single i j one other h k d root runs overlap = elim (below_or_above i j d) [
    | inl less ↦ apart_in_order i j one other h k less root (single one.root runs) overlap
    | inr less ↦ apart_in_order j i other one k h less (sym root) (single other.root (subst R root runs))
        (sym (overlap.0), other_way (DemandOf p.terms one) (DemandOf p.terms other) (overlap.1))
  ]

-- Where rules are faultless, those of terms without `multi` have no ties.
pub faultless_rules_have_no_ties : FaultlessRulesHaveNoTies
faultless_rules_have_no_ties p run sound faultless single =
    no_ties p (λ t. run t ≡ true) sound (none_overlap p faultless (λ t. run t ≡ true) single)

-- rules call any term
calls_any : (p : CheckedProgram) (R : ℕ → Type 0) → CallsOnly p R every_term
calls_any p R i rule at runs = (any_patterns p.terms rule.args, any_iflets p.terms rule.iflets, any_expr p.terms rule.right)

-- whether a kind of term is `multi`
multi_kind : (names : List (List ℕ)) (kind : TermKind) → is_multi_kind kind ≡ (flags_of (form_shown names kind)).multi
multi_kind names (EnumVariant variant) = refl
multi_kind names Struct = refl
multi_kind names (Decl flags makes takes) = refl

-- whether a term is, by the tables
multi_in : (program : Program) (t : ℕ) → is_multi_in (terms_of program) t ≡ (checked program).terms.multi t
multi_in program t =
    by_term (slice_get (terms_of program).terms t)
    ∙ ap (λ (o : Option Signature). (flags_of (unwrap_or o no_term).form).multi)
    (sym (slice_get-map (term_shown (types_of program).names) (terms_of program).terms t))
  where
    by_term : (o : Option Term) → option_map_or (λ (term : Term). is_multi_kind term.kind) o false
        ≡ (flags_of (unwrap_or (option_map (term_shown (types_of program).names) o) no_term).form).multi
    by_term None = refl
    by_term (Some term) = multi_kind (types_of program).names term.kind

-- a term that can be run isn't `multi`
runs_single : (program : Program) (t : ℕ) → RunsIn program t → (checked program).terms.multi t ≡ false
runs_single program t runs = sym (multi_in program t) ∙ (or_parts (is_multi_in (terms_of program) t) _ (runs.free)).0

-- what is said of rules that may not fail, by these facts
abbrev SureCalls : TypedRule → TermFacts → Type 0
SureCalls rule facts = facts.partial rule.root ≡ false → ExprCalls facts (λ t. facts.partial t ≡ false) rule.right

-- what tables say of terms and of rules
terms_say : (files : List SourceFile) (program : Program) (is : IsProgramOf files program)
    → checked program ≡ defined_program is.types is.terms.environment
    → (checked program).terms ≡ (defined_program is.types is.terms.environment).terms
terms_say files program is agrees = ap (λ (p : CheckedProgram). p.terms) agrees

rules_say : (files : List SourceFile) (program : Program) (is : IsProgramOf files program)
    → checked program ≡ defined_program is.types is.terms.environment
    → (checked program).rules ≡ (defined_program is.types is.terms.environment).rules
rules_say files program is agrees = ap (λ (p : CheckedProgram). p.rules) agrees

-- a compiled program's rules of terms that may not fail call what may not fail
compiled_sure : (files : List SourceFile) (program : Program) (is : IsProgramOf files program)
    → checked program ≡ defined_program is.types is.terms.environment → FailsWherePartial (checked program) (RunsIn program)
compiled_sure files program is agrees i rule at runs =
    let there : slice_get is.terms.environment.rules i ≡ Some rule =
    ap (λ (l : List TypedRule). slice_get l i) (sym (rules_say files program is agrees)) ∙ at in
    let expands = (terms_of program).expands in
    let all = rules_typed is.types expands max_levels max_nodes is.defs is.terms.environment is.terms.makes in
    let typed : IsTypedRule (declared_by is.types expands is.terms.environment) rule =
    all_at (IsTypedRule (declared_by is.types expands is.terms.environment)) is.terms.environment.rules all i rule there in
    let expanded : IsTypedRule (declared_by is.types true is.terms.environment) rule =
    subst (λ (b : Bool). IsTypedRule (declared_by is.types b is.terms.environment) rule) is.expands typed in
    subst (SureCalls rule) (sym (terms_say files program is agrees))
    (typed_rules_call_well (declared_by is.types true is.terms.environment) rule expanded)

-- a compiled program's rules are faultless
compiled_faultless : (files : List SourceFile) (program : Program) (is : IsProgramOf files program)
    → checked program ≡ defined_program is.types is.terms.environment → AreFaultless (checked program).terms (checked program).rules
compiled_faultless files program is agrees =
    subst (λ (l : List TypedRule). AreFaultless (checked program).terms l) (sym (rules_say files program is agrees))
    (subst (λ (f : TermFacts). AreFaultless f is.terms.environment.rules) (sym (terms_say files program is agrees)) is.faultless)

module _ (files : List SourceFile) (program : Program) (is : IsProgramOf files program) (all : AreAllInhabited (types_of program).types)
    (w : Answers) (n : ℕ) where
  -- the program says what its definitions say
  says : checked program ≡ defined_program is.types is.terms.environment
  says = (compiled_programs_are_sound files program is).0

  sound : IsSound (checked program) (RunsIn program)
  sound = (compiled_programs_are_sound files program is).2

  -- its rules have no ties
  ties : HasNoTies (checked program) (RunsIn program)
  ties = no_ties (checked program) (RunsIn program) sound
      (none_overlap (checked program) (compiled_faultless files program is says) (RunsIn program) (runs_single program))

  -- its meanings at a depth are one, and of their terms' types
  meant : One (RunsIn program) (Means (checked program) w n) × GivesGood (checked program) (RunsIn program) (Means (checked program) w n)
  meant = meanings_are (checked program) w (RunsIn program) every_term sound ties (calls_any (checked program) (RunsIn program))
      (inhabited_programs_have_values files program is all) (compiled_sure files program is says) n

  -- rules can't but be covered
  covering : (t : ℕ) (args : Values) → RunsIn program t
      → Surely ((c : Completion) × Agrees (checked program) w (Means (checked program) w n) c × CoversAll (checked program) c t args)
  covering t args runs = follows
      (covering_at (checked program) w (RunsIn program) every_term sound ties (calls_any (checked program) (RunsIn program))
      (inhabited_programs_have_values files program is all) (compiled_sure files program is says) n (meant.0) (meant.1) t args
      (open_completion (checked program) w (Means (checked program) w n)) runs
      (open_agrees (checked program) w (Means (checked program) w n)))
      (λ m. surely (m.next, m.agrees, m.covers))

-- Calls of a compiled program have one meaning.
pub compiled_meanings_are_one : CompiledMeaningsAreOne
compiled_meanings_are_one files program is all w n t args one other x y runs h k =
    (meant files program is all w n).0 t args one other x y runs h k

-- What a call needs of completions can be met.
pub premises_can_be_met : PremisesCanBeMet
premises_can_be_met files program is all w n t args runs = covering files program is all w n t args runs
