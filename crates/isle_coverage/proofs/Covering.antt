-- Where the rows of a term's rules are covered, so is the term; where facts refute the rows, no rule matches.
use Rattle.std.proofs.Common.{◌≡◌, inl, inr, ℕ, zero, suc, true, false, List, [], ◌∷◌, Option, Some, length, slice_get, refl, sym, ap, subst, ◌∙◌, arith, Contains}
use Rattle.std.specs.List.{AllZip}
use Rattle.std.proofs.lemmas.Option.{get_or_from_slice_get, none-some, same_Some, slice_get-get_or, slice_get_within}
use Rattle.isle_ast.specs.Positions.Files.{SourceFile}
use Rattle.isle_types.specs.declared.ids.Sym.{Sym}
use Rattle.isle_types.specs.declared.ids.TermId.{TermId}
use Rattle.isle_types.specs.declared.ids.TypeId.{TypeId}
use Rattle.isle_rules.specs.Definitions.{declared_by}
use Rattle.isle_rules.specs.Shown.TermTables.{TermTables}
use Rattle.isle_rules.specs.TypedRules.{TypedRule}
use Rattle.isle_meaning.specs.Answers.{Completion}
use Rattle.isle_meaning.specs.Calls.{IsRuleAt}
use Rattle.isle_meaning.specs.Demands.{DemandOf, constrained}
use Rattle.isle_meaning.specs.Facts.{TermFacts, patterns}
use Rattle.isle_meaning.specs.Faults.{IsUnreachable}
use Rattle.isle_meaning.specs.GroundValues.{AreValuesOf, IsValueOf}
use Rattle.isle_meaning.specs.Held.{Held, Meets, held_value, value}
use Rattle.isle_meaning.specs.Laws.Matching.{Settles}
use Rattle.isle_meaning.specs.Matching as meaning
use Rattle.isle_meaning.specs.Sites.{Site}
use Rattle.isle_meaning.specs.Sorts.{Sort, Suits, plain_sort, sort}
use Rattle.isle_meaning.specs.SoundPrograms.{IsSound}
use Rattle.isle_meaning.specs.Values.{Value, Values, count}
use Rattle.isle_meaning.specs.Worlds.{CheckedProgram}
use Rattle.isle_meaning.proofs.Matching.Whole.{unreachable_is_dead}
use Rattle.isle_meaning.proofs.Sites.Kinded.{typed_count}
use Rattle.isle_trees.specs.Answers.{Answers}
use Rattle.isle_trees.specs.Got.{Got, fails, gives, unknown}
use Rattle.isle_trees.specs.Choice.{NoneMatches}
use Rattle.isle_trees.specs.Premises.{IsWellMade, KnowsAsked, Respects}
use Rattle.isle_trees.specs.Rules.{Elem, Matches, Rules, alike_got}
use Rattle.isle_trees.proofs.Basics.{true_or}
use Rattle.isle_trees.proofs.Building.Lists.{below_less, elem_below}
use Rattle.isle_missing.specs.declared.demand.Demand.{Demand}
use Rattle.isle_missing.specs.declared.facts.Fact.{Fact}
use Rattle.isle_missing.specs.declared.ids.TestId.{TestId}
use Rattle.isle_missing.specs.Demands.{AllHold, SomeMatches, World, equals, passes}
use Rattle.isle_missing.specs.Facts as numbered_facts
use Rattle.isle_missing.specs.Search.{MatchesAlways, MissesUnder}
use Rattle.isle_missing.specs.Sites.{numbers}
use Rattle.isle_missing.specs.Trees.{AreApart, AreSingle, AreTyped, Shows, StandsFor, passes_numbered}
use Rattle.isle_missing.proofs.Trees.{is_world_of, none_matches, some_matches, world_of}
use Rattle.isle_blocks.specs.Building.Naming.{name_by}
use Rattle.isle_blocks.specs.DefinedSets.{AreDefined, IsMadeAt, IsSetOf, IsTermSet, facts_by, rules_by}
use Rattle.isle_blocks.specs.RuleFaults.{MayMatchAt}
use Rattle.isle_blocks.specs.Rows.{IsInjective, test_of}
use Rattle.isle_blocks.specs.RuleSets.{RulesOverSites}
use Rattle.isle_blocks.specs.declared.constraint.Constraint.{Constraint}
use Rattle.isle_blocks.specs.declared.constraint.Constraint.TheVariants as tests
use Rattle.isle_blocks.specs.declared.rule.Rule.{Rule}
use Rattle.isle_blocks.specs.Trees.Compare.{meets, same_held}
use Rattle.isle_blocks.specs.Trees.Premises.{IsRunnableSet}
use Rattle.isle_blocks.specs.Trees.Promises.{all_rules}
use Rattle.isle_blocks.specs.Trees.SiteTrees.{held_by}
use Rattle.isle_blocks.specs.Trees.View.{id_of, rules_of}
use Rattle.isle_blocks.proofs.Building.Naming.{name_by_injective}
use Rattle.isle_blocks.proofs.Trees.Chosen.{get_there, no_done}
use Rattle.isle_blocks.proofs.Trees.Exact.{held_sound, met_passes, passed_meets}
use Rattle.isle_blocks.proofs.Trees.Matched.{knows_asked, matches_as_typed}
use Rattle.isle_blocks.proofs.Trees.Promises.TypedCalls.{stands_typed}
use Rattle.isle_blocks.proofs.Trees.Promises.TypedHeld.{IsHeldOf, site_typed, values_count}
use Rattle.isle_blocks.proofs.Trees.Reading.{test_found}
use Rattle.isle_blocks.proofs.Trees.Respected.{respects}
use Rattle.isle_blocks.proofs.Trees.Standing.{tree_one}
use Rattle.isle_blocks.proofs.Trees.TermTrees.Typing.{runnable}
use Rattle.isle_blocks.proofs.Trees.WellMade.{derived_test, fit_of, made_rule, suits_of, well_made}
use Rattle.isle_program.specs.declared.program.Program.{Program}
use Rattle.isle_program.specs.Compiled.{IsProgramOf, max_levels, max_nodes}
use Rattle.isle_program.specs.Meanings.{checked, may_run}
use Rattle.isle_program.specs.Programs.{types_of, terms_of, rule_sets_of}
use Rattle.isle_program.proofs.SoundPrograms.Agreeing.{rules_agree, terms_agree}
use Rattle.isle_program.proofs.SoundPrograms.Known.{sound_of}
use Rattle.isle_coverage.specs.declared.numbered.Numbered.{Numbered}
use Rattle.isle_coverage.specs.declared.verdict.Told.{Told}
use Rattle.isle_coverage.specs.declared.verdict.Told.TheVariants.{Passes, Fails, Differ}
use Rattle.isle_coverage.specs.declared.verdict.Verdict.{Verdict}
use Rattle.isle_coverage.specs.declared.verdict.Verdict.TheVariants.{Covered, Missing, Undecided}
use Rattle.isle_coverage.specs.Covered.{IsCovered, MayAnswer, SomeRuleMatches}
use Rattle.isle_coverage.specs.Inside.Judging.{IsJudgement, IsToldOf}
use Rattle.isle_coverage.specs.Inside.Less.{DemandsLess}
use Rattle.isle_coverage.specs.Inside.Numbered.{IsNumbered}
use Rattle.isle_coverage.specs.Inside.Rows.{IsRow}
use Rattle.isle_coverage.specs.Inside.Sites.{IsTestedAs}
use Rattle.isle_coverage.specs.Inside.Tables.{HasNumber}
use Rattle.isle_coverage.specs.Inside.Tests.{is_single_test, plain_test, typed_test}
use Rattle.isle_coverage.specs.Verdicts.{AreSo, IsSo, IsVerdict, MissesWhere}
use Rattle.isle_coverage.proofs.Lists.{member_head, member_tail, no_member}
use Rattle.isle_coverage.proofs.Plain.{plain_meets, plain_one, single_one}
use Rattle.isle_coverage.proofs.Standing.{numbering, stands}

-- the row of a rule, and the rule of a row
zip_row : {A B : Type 0} (P : A → B → Type 0) (xs : List A) (ys : List B) (i : ℕ) (x : A) → AllZip P xs ys → slice_get xs i ≡ Some x
    → (y : B) × Contains ys y × P x y
zip_row P [] ys i x z e = absurd (none-some x e)
zip_row P (a ∷ xs) [] i x z e = absurd z
zip_row P (a ∷ xs) (y ∷ ys) zero x z e = (y, (0, omega arith, refl), subst (λ w. P w y) (same_Some a x e) (z.0))
zip_row P (a ∷ xs) (y ∷ ys) (suc i) x z e = let (w, m, holds) = zip_row P xs ys i x (z.1) e in (w, member_tail y w ys m, holds)

row_zip : {A B : Type 0} (P : A → B → Type 0) (xs : List A) (ys : List B) (y : B) → AllZip P xs ys → Contains ys y
    → (i : ℕ) × (x : A) × (slice_get xs i ≡ Some x) × P x y
row_zip P xs [] y z m = absurd (no_member y m)
row_zip P [] (b ∷ ys) y z m = absurd z
row_zip P (a ∷ xs) (b ∷ ys) y z (zero, low, same) = (0, a, refl, subst (P a) same (z.0))
row_zip P (a ∷ xs) (b ∷ ys) y z (suc k, low, same) = let (i, x, at, holds) = row_zip P xs ys y (z.1) (k, omega arith, same) in (suc i, x, at, holds)

zip_there : {A B : Type 0} (P : A → B → Type 0) (xs : List A) (ys : List B) (i : ℕ) (x : A) → AllZip P xs ys → slice_get xs i ≡ Some x
    → (y : B) × (slice_get ys i ≡ Some y) × P x y
zip_there P [] ys i x z e = absurd (none-some x e)
zip_there P (a ∷ xs) [] i x z e = absurd z
zip_there P (a ∷ xs) (y ∷ ys) zero x z e = (y, refl, subst (λ w. P w y) (same_Some a x e) (z.0))
zip_there P (a ∷ xs) (y ∷ ys) (suc i) x z e = zip_there P xs ys i x (z.1) e

-- what stands in a list stands at a place
placed : {A : Type 0} (xs : List A) (x : A) → Contains xs x → (i : ℕ) × (slice_get xs i ≡ Some x)
placed xs x (k, low, same) = (k, slice_get-get_or xs k x low ∙ ap (λ y. Some y) same)

-- a number of tests is one of them
number_listed : (ids : List TestId) (id : TestId) → Contains ids id → Contains (numbers ids) id.0
number_listed [] id m = absurd (no_member id m)
number_listed (x ∷ ids) id (zero, low, same) = (0, omega arith, ap (λ (t : TestId). t.0) same)
number_listed (x ∷ ids) id (suc k, low, same) = member_tail x.0 id.0 (numbers ids) (number_listed ids id (k, omega arith, same))

-- the sort of a site with a test that says its type
suited : (facts : TermFacts) (tys : List ℕ) (name : Sym → List ℕ) (u : Site) (test : Constraint) (ty : TypeId) → typed_test test ≡ Some ty
    → Suits facts tys (constrained u (test_of name test)) → sort facts tys u ≡ plain_sort ty.0
suited facts tys name u (tests.Variant own k n) ty e suits = suits ∙ ap (λ (t : TypeId). plain_sort t.0) (same_Some own ty e)
suited facts tys name u (tests.Struct own n) ty e suits = suits ∙ ap (λ (t : TypeId). plain_sort t.0) (same_Some own ty e)
suited facts tys name u (tests.ConstBool val own) ty e suits = suits ∙ ap (λ (t : TypeId). plain_sort t.0) (same_Some own ty e)
suited facts tys name u (tests.ConstInt val own) ty e suits = suits ∙ ap (λ (t : TypeId). plain_sort t.0) (same_Some own ty e)
suited facts tys name u (tests.ConstPrim val) ty e suits = absurd (none-some ty e)
suited facts tys name u tests.Some ty e suits = absurd (none-some ty e)

-- what is held of a type is a value of it
plain_value : (p : CheckedProgram) (k : Sort) (ty : ℕ) (x : Held) → k ≡ plain_sort ty → IsHeldOf p k x
    → (w : Value) × (x ≡ held_value w) × IsValueOf p.values w ty
plain_value p k ty x e held = subst (λ (s : Sort). IsHeldOf p s x) e held

-- what passes a test passes its number
passed_number : (name : Sym → List ℕ) (set : RulesOverSites) (test : Constraint) (h : Held) (o : Option Constraint) (g : Got Held) → o ≡ Some test
    → g ≡ gives h → meets name test h ≡ true → passes_numbered (rules_of name set) o g ≡ true
passed_number name set test h o g at there met = rw (at, there) met

-- what doesn't pass it doesn't
failed_number : (name : Sym → List ℕ) (set : RulesOverSites) (test : Constraint) (o : Option Constraint) (g : Got Held) → o ≡ Some test
    → ((h : Held) → g ≡ gives h → Meets (test_of name test) h → ⊥) → passes_numbered (rules_of name set) o g ≡ false
failed_number name set test o unknown at f = rw at refl
failed_number name set test o fails at f = rw at refl
failed_number name set test o (gives h) at f = rw at (elim (true_or (meets name test h)) [
  | inl met ↦ absurd (f h refl (passed_meets name test h met))
  | inr other ↦ other
])

-- sites that don't hold the same aren't alike
unlike : (name : Sym → List ℕ) (set : RulesOverSites) (g k : Got Held) → ((h : Held) → g ≡ gives h → k ≡ gives h → ⊥)
    → alike_got (rules_of name set) g k ≡ false
unlike name set unknown k f = refl
unlike name set fails k f = refl
unlike name set (gives x) unknown f = refl
unlike name set (gives x) fails f = refl
unlike name set (gives x) (gives y) f = elim (true_or (same_held x y)) [
  | inl met ↦ absurd (f x refl (ap gives (sym (held_sound x y met))))
  | inr other ↦ other
]

-- rules that demand less match where the rules do
all_held : (w : World) (row : List Demand) (d : Demand) → AllHold w row → Contains row d → w.holds d ≡ true
all_held w [] d all m = absurd (no_member d m)
all_held w (e ∷ es) d all (zero, low, same) = subst (λ (x : Demand). w.holds x ≡ true) same (all.0)
all_held w (e ∷ es) d all (suc k, low, same) = all_held w es d (all.1) (k, omega arith, same)

all_hold : (w : World) (row : List Demand) → ((d : Demand) → Contains row d → w.holds d ≡ true) → AllHold w row
all_hold w [] each = tt
all_hold w (e ∷ es) each = (each e (member_head e es), all_hold w es (λ d m. each d (member_tail e d es m)))

some_less : (w : World) (rows less : List (List Demand)) → AllZip DemandsLess rows less → SomeMatches w rows → SomeMatches w less
some_less w [] [] z m = absurd m
some_less w [] (l ∷ ls) z m = absurd z
some_less w (r ∷ rs) [] z m = absurd z
some_less w (r ∷ rs) (l ∷ ls) z (inl all) = inl (all_hold w l (λ d m. all_held w r d all (z.0 d m)))
some_less w (r ∷ rs) (l ∷ ls) z (inr m) = inr (some_less w rs ls (z.1) m)

pub misses_more : (facts : List Fact) (rows less : List (List Demand)) → AllZip DemandsLess rows less → MissesUnder facts less
    → MissesUnder facts rows
misses_more facts rows less zip misses w so m = misses w so (some_less w rows less zip m)

module _ (program : Program) (files : List SourceFile) (compiled : IsProgramOf files program) (t : ℕ) (may : may_run program t)
    (own : TermId × RulesOverSites) (inside : Contains (rule_sets_of program) own) (of : own.0.0 ≡ t) (numbered : Numbered)
    (is : IsNumbered program own.1 numbered) where
  -- its meaning, its terms, the names of symbols, and the rule set
  abbrev prog : CheckedProgram
  prog = checked program

  abbrev env : TermTables
  env = terms_of program

  abbrev name : Sym → List ℕ
  name = name_by (types_of program).names

  abbrev set : RulesOverSites
  set = own.1

  -- its definitions
  abbrev defined : AreDefined env
  defined = record {
    tyenv = types_of program;
    types = compiled.types;
    levels = max_levels;
    max = max_nodes;
    defs = compiled.defs;
    once = compiled.once;
    shows = compiled.terms;
    few = compiled.few;
  }

  -- its tables say what they do
  same_terms : prog.terms ≡ facts_by env defined
  same_terms = terms_agree (types_of program) env (declared_by compiled.types env.expands compiled.terms.environment) compiled.terms.declared

  same_rules : prog.rules ≡ rules_by env defined
  same_rules = rules_agree (types_of program).names compiled.terms.environment.rules env.rules compiled.terms.rules

  -- the rule set is the term's
  of_term : IsSetOf name prog.terms env.rules prog.rules t set
  of_term =
      let (k, low, at) = inside in
      let its : IsTermSet env defined own = subst (IsTermSet env defined) at (compiled.sets.each k own low) in
      let here : IsSetOf name (facts_by env defined) env.rules (rules_by env defined) t set =
      subst (λ (u : ℕ). IsSetOf name (facts_by env defined) env.rules (rules_by env defined) u set) of (its.1) in
      let by_terms : IsSetOf name prog.terms env.rules (rules_by env defined) t set =
      subst (λ (f : TermFacts). IsSetOf name f env.rules (rules_by env defined) t set) (sym same_terms) here in
      subst (λ (rules : List TypedRule). IsSetOf name prog.terms env.rules rules t set) (sym same_rules) by_terms

  injective : IsInjective name
  injective = name_by_injective (types_of program).names compiled.once

  sound : IsSound prog (may_run program)
  sound = (sound_of program).sound

  -- it is that of a runnable term
  abbrev h : IsRunnableSet name prog.terms env.rules prog.rules t set
  h = runnable name prog (may_run program) sound env.rules t may set of_term injective

  -- the set as trees see it, the tests at their numbers, and the rows
  abbrev R : Rules Constraint Held
  R = rules_of name set

  abbrev table : List Constraint
  table = numbered.table

  abbrev rows : List (List Demand)
  rows = numbered.rows.items

  abbrev left : List ℕ
  left = all_rules set

  -- a test of the table is told by what passes it
  plain_at : (i : ℕ) (c : Constraint) → slice_get table i ≡ Some c → plain_test c ≡ c
  plain_at i c e =
      subst (λ (d : Constraint). plain_test d ≡ d) (get_or_from_slice_get table i c c e) (is.plain i c (slice_get_within table i c e))

  -- no value passes two
  apart : AreApart R (numbering table)
  apart i j c d x e f p q =
      let same : c ≡ d = plain_one name injective c d x (plain_at i c e) (plain_at j d f) p q in
      is.once c i j e (f ∙ ap (λ (y : Constraint). Some y) (sym same))

  -- a rule's number is one of those left
  rule_left : (i : ℕ) (r : Rule) → slice_get set.rules i ≡ Some r → Elem i left
  rule_left i r at = elem_below i (length set.rules) (slice_get_within set.rules i r at)

  left_rule : (i : ℕ) → Elem i left → (r : Rule) × (slice_get set.rules i ≡ Some r)
  left_rule i e = get_there set.rules i (below_less i (length set.rules) e)

  -- a row of a rule stands for it
  row_stands : (i : ℕ) (r : Rule) (row : List Demand) → slice_get set.rules i ≡ Some r → IsRow table r row → StandsFor R (numbering table) i row
  row_stands i r row at its =
      let (k, made) = made_rule name prog.terms env.rules prog.rules t set h i r at in stands name prog env.rules t set h table i r at k made row its

  -- the rows stand for the rules
  pub shows : Shows R (numbering table) left rows
  shows = record {
    apart = apart;
    from_rules = λ row m.
        (let (i, r, at, its) = row_zip (IsRow table) set.rules rows row is.rows m in (i, rule_left i r at, row_stands i r row at its));
    to_rules = λ i e.
        (let (r, at) = left_rule i e in
        let (row, m, its) = zip_row (IsRow table) set.rules rows i r is.rows at in (row, m, row_stands i r row at its));
  }

  made : IsWellMade R
  made = well_made name prog.terms env.rules prog.rules t set h

  module _ (c : Completion) (args : Values) (may_answer : MayAnswer prog c t args) (args_typed : AreValuesOf prog.values args (prog.terms.inputs t))
    where
      -- what sites hold
      abbrev pub v : Answers Held
      v = held_by name set.sites prog.terms c args []

      respects_fields : Respects R v
      respects_fields =
          respects name prog.terms env.rules prog.rules t set h c args [] may_answer.allowed
          (values_count prog.values args (prog.terms.inputs t) args_typed)
          (no_done name set prog.terms)

      knows : KnowsAsked R v
      knows = knows_asked name prog.terms env.rules prog.rules t set h c args []
          (λ place rule at root. may_answer.covers place rule (record { listed = at; of_term = root }))

      -- what a site with a test of a type holds is a value of it
      value_of_site : (s : ℕ) (ty : TypeId) (x : Held) → IsTestedAs set.rules s ty → v s ≡ gives x
          → (w : Value) × (x ≡ held_value w) × IsValueOf prog.values w ty.0
      value_of_site s ty x tested g =
          let (i, at) = placed set.rules tested.rule tested.listed in
          let (k, its) = made_rule name prog.terms env.rules prog.rules t set h i tested.rule at in
          let closed = its.closed in
          let asked : Contains tested.rule.constraints (id_of s, tested.test) =
          subst (λ (n : ℕ). Contains tested.rule.constraints (id_of n, tested.test)) tested.of_site tested.asked in
          let own_test = test_found tested.rule s tested.test closed.ascending asked in
          let (u, at_u, derived) = derived_test name prog.terms env.rules prog.rules t set h k tested.rule its s tested.test own_test in
          let suits = suits_of name prog.terms env.rules prog.rules t set h k tested.rule its (constrained u (test_of name tested.test)) derived in
          let is_sort = suited prog.terms (prog.terms.inputs t) name u tested.test ty tested.typed suits in
          let tree_is = tree_one name set.sites of_term.table u s at_u in
          let there : value prog.terms c args [] u ≡ gives x = subst (λ (z : Site). value prog.terms c args [] z ≡ gives x) tree_is g in
          let typed_site = stands_typed name prog (may_run program) sound env.rules t may set of_term u (s, at_u) in
          plain_value prog (sort prog.terms (prog.terms.inputs t) u) ty.0 x is_sort
          (site_typed prog sound.data_sound (prog.terms.inputs t) c may_answer.typed args args_typed [] u x typed_site
          (λ f n ss w sub e. absurd (none-some _ e)) there)

      -- each value of a site passes one of its tests, where these are known
      typed : AreTyped R (numbering table) numbered.sites.items v
      typed s ts x e g =
          let (ty, ids, tested, (all, complete, numbers_are), same) = is.sites.all s ts e in
          let (w, held, of_type) = value_of_site s ty x tested g in
          let (d, there, meets_it) = complete compiled.few of_type.tree of_type.typed in
          let (k, at) = placed all d there in
          let (id, listed, number) = zip_row (λ (c : Constraint) (t : TestId). HasNumber table c t.0) all ids k d numbers_are at in
          let passes_it : meets name d x ≡ true =
          ap (meets name d) (held ∙ ap held_value (sym of_type.stands)) ∙ meets_it in (
            id.0,
            subst (λ (l : List ℕ). Contains l id.0) (sym same) (number_listed ids id listed),
            plain_test d,
            number,
            plain_meets name d x ∙ passes_it,
          )

      -- only one value passes a test of which that is said
      single : AreSingle R (numbering table) numbered.sites.items
      single s i d x y said e p q =
          let (f, at, one) = is.sites.single s i said in
          single_one name d x y (subst (λ (z : Constraint). is_single_test z ≡ true) (same_Some f d (sym at ∙ e)) one) p q

      -- arguments and answers settle whether a rule of the set matches
      settles : (k : ℕ) (r : Rule) (its : IsMadeAt name prog.terms env.rules prog.rules t set.sites k r) → Settles prog.terms c args its.reached.rule
      settles k r its =
          let fit = fit_of name prog.terms env.rules prog.rules t set h k r its in
          let takes : count args ≡ patterns its.reached.rule.args =
          values_count prog.values args (prog.terms.inputs t) args_typed
          ∙ sym (typed_count prog.terms (prog.terms.inputs t) fit.var_types its.reached.rule.args (prog.terms.inputs t) fit.typed.args) in
          record {
            allowed = may_answer.allowed;
            takes = takes;
            covers = may_answer.covers k its.reached.rule (record { listed = its.reached.at; of_term = its.reached.of_term });
          }

      -- a rule of the set that matches is one of the term
      matching : (i : ℕ) → Elem i left → Matches R v i → SomeRuleMatches prog c t args
      matching i e matches =
          let (r, at) = left_rule i e in
          let (k, its) = made_rule name prog.terms env.rules prog.rules t set h i r at in
          let is_rule : IsRuleAt prog t k its.reached.rule = record { listed = its.reached.at; of_term = its.reached.of_term } in
          record {
            place = k;
            rule = its.reached.rule;
            at = is_rule;
            matches = (matches_as_typed name prog.terms env.rules prog.rules t set h c args i r at k its (settles k r its)).0 matches;
          }

      -- where the rows are covered some rule matches
      pub some_rule : MatchesAlways numbered.sites.items rows → SomeRuleMatches prog c t args
      some_rule always =
          let (i, e, matches) =
          some_matches R left (numbering table) numbered.sites.items rows v made.exact made.both shows always respects_fields knows typed single in
          matching i e matches

      -- the world of what sites hold
      abbrev w : World
      w = world_of R (numbering table) v apart

      -- what is told of a fact is so where the fact is
      fact_so : (fact : Fact) (told : Told) → IsToldOf table fact told → IsSo name v told → w.holds fact.demand ≡ fact.holds
      fact_so fact (Passes s test) (n, at, is) (h, there, met) =
          let world = is_world_of R (numbering table) v apart (passes s.0 n) in
          subst (λ (f : Fact). w.holds f.demand ≡ f.holds) (sym is)
          (world ∙ passed_number name set test h (slice_get table n) (v s.0) at there (met_passes name test h met))
      fact_so fact (Fails s test) (n, at, is) f =
          let world = is_world_of R (numbering table) v apart (passes s.0 n) in
          subst (λ (f : Fact). w.holds f.demand ≡ f.holds) (sym is) (world ∙ failed_number name set test (slice_get table n) (v s.0) at f)
      fact_so fact (Differ a b) is f =
          let world = is_world_of R (numbering table) v apart (equals a.0 b.0) in
          subst (λ (f : Fact). w.holds f.demand ≡ f.holds) (sym is) (world ∙ unlike name set (v a.0) (v b.0) f)

      facts_so : (facts : List Fact) (told : List Told) → AllZip (IsToldOf table) facts told → AreSo name v told → numbered_facts.AreSo w facts
      facts_so [] [] z so = tt
      facts_so [] (t ∷ ts) z so = absurd z
      facts_so (f ∷ fs) [] z so = absurd z
      facts_so (f ∷ fs) (t ∷ ts) z so = (fact_so f t (z.0) (so.0), facts_so fs ts (z.1) (so.1))

      -- a rule of the term that matches is one of the set
      unmatched : NoneMatches R v left → SomeRuleMatches prog c t args → ⊥
      unmatched none some =
          let fit = h.runnable.fit some.place some.rule some.at.listed some.at.of_term in
          let alive : IsUnreachable (DemandOf prog.terms some.rule) → ⊥ =
          λ dead. unreachable_is_dead prog.terms (prog.terms.inputs t) c args some.rule fit dead some.matches in
          let reached : MayMatchAt prog.terms prog.rules t some.place =
          record { rule = some.rule; at = some.at.listed; of_term = some.at.of_term; may = alive } in
          let (k, at_place) = placed of_term.places some.place ((of_term.listed.all some.place).1 reached) in
          let (r, at, its) = zip_there (IsMadeAt name prog.terms env.rules prog.rules t set.sites) of_term.places set.rules k some.place of_term.made
          at_place in
          let same : some.rule ≡ its.reached.rule = same_Some some.rule its.reached.rule (sym some.at.listed ∙ its.reached.at) in
          let matches = subst (λ (rule : TypedRule). meaning.Matches prog.terms c args rule) same some.matches in
          none k (rule_left k r at)
          ((matches_as_typed name prog.terms env.rules prog.rules t set h c args k r at some.place its (settles some.place r its)).1 matches)

      -- where what is told is so no rule matches
      none_so : (facts : List Fact) (told : List Told) → MissesUnder facts rows → AllZip (IsToldOf table) facts told → AreSo name v told
          → SomeRuleMatches prog c t args → ⊥
      none_so facts told misses zip so =
          unmatched (none_matches R left (numbering table) rows facts v w made.exact shows misses (is_world_of R (numbering table) v apart)
          (facts_so facts told zip so))

  -- Where the rows are covered the term is.
  pub rows_cover : MatchesAlways numbered.sites.items rows → IsCovered prog t
  rows_cover always c args may_answer args_typed = some_rule c args may_answer args_typed always

  -- Where facts refute the rows, no rule matches where what they say is so.
  pub rows_miss : (facts : List Fact) (told : List Told) → MissesUnder facts rows → AllZip (IsToldOf table) facts told
      → MissesWhere program t set told
  rows_miss facts told misses zip c args may_answer args_typed so = none_so c args may_answer args_typed facts told misses zip so

  -- What is told of the rows is so of the term.
  pub judged : (verdict : Verdict) → IsJudgement numbered verdict → IsVerdict program t verdict
  judged Covered always = rows_cover always
  judged (Missing told) (facts, misses, zip) = (own, inside, of, rows_miss facts told.items misses zip)
  judged Undecided said = tt
