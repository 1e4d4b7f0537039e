-- Faults between the rules of a rule set are those of the rules that definitions make.
use Rattle.std.proofs.Common.{◌≡◌, ◌<◌, ◌+◌, ◌↔◌, inl, inr, ℕ, List, false, Option, Some, None, unwrap_or, slice_get, refl, sym, ap, subst, ◌∙◌, arith}
use Rattle.std.specs.Prelude.{ℤ}
use Rattle.std.specs.Option.{option_map_or, option_map}
use Rattle.std.proofs.lemmas.Bool.{cases_eq, cases_lt}
use Rattle.std.proofs.lemmas.Option.{same_Some, get_or_from_slice_get, slice_get_within, slice_get-map}
use Rattle.isle_types.proofs.Zipped.{zipped_at, mapped_at}
use Rattle.isle_types.specs.declared.ids.Sym.{Sym}
use Rattle.isle_types.specs.Names.{AreDistinct}
use Rattle.isle_rules.specs.declared.terms.Term.{Term}
use Rattle.isle_rules.specs.declared.terms.TermKind.{TermKind}
use Rattle.isle_rules.specs.declared.terms.TermKind.TheVariants.{EnumVariant, Struct, Decl}
use Rattle.isle_rules.specs.Signatures.{Signature, flags_of}
use Rattle.isle_rules.specs.TypedRules.{TypedRule}
use Rattle.isle_rules.specs.Shown.TermTables.{TermTables}
use Rattle.isle_rules.specs.Shown.ShownTerms.{term_shown, form_shown}
use Rattle.isle_meaning.specs.Facts.{no_term}
use Rattle.isle_meaning.specs.Demands.{Demand}
use Rattle.isle_meaning.specs.Faults as faults
use Rattle.isle_meaning.specs.Demands.{DemandOf}
use Rattle.isle_rules.proofs.Zipped.{count_at}
use Rattle.isle_blocks.specs.declared.binding.Binding.{Binding}
use Rattle.isle_blocks.specs.declared.rule.Rule.{Rule}
use Rattle.isle_blocks.specs.declared.faults.Fault.{Fault}
use Rattle.isle_blocks.specs.declared.faults.Fault.TheVariants.{Overlap, Shadow}
use Rattle.isle_blocks.specs.Rows.{IsInjective, row_of, rows_of}
use Rattle.isle_blocks.specs.Rules as rules
use Rattle.isle_blocks.specs.ClosedRules.{StandOnce}
use Rattle.isle_blocks.specs.FaultsBetween.{FaultAt}
use Rattle.isle_blocks.specs.RuleFaults.{MayMatchAt, AreRivals, AreOverlapping, IsShadowing}
use Rattle.isle_blocks.specs.RuleSets.{RulesOverSites}
use Rattle.isle_blocks.specs.DefinedSets.{AreDefined, name_of, facts_by, rules_by, ListsNumbers, IsMadeAt, IsSetOf}
use Rattle.isle_blocks.specs.Inside.RivalLists.{number_at}
use Rattle.isle_rules.specs.Shown.TermTables.{is_multi_in, is_multi_kind}
use Rattle.isle_blocks.proofs.Rows.RowsInjective.{row-injective}
use Rattle.isle_blocks.proofs.Building.Naming.{name_by_injective}
use Rattle.isle_blocks.proofs.Building.Tables.{site_once}
use Rattle.isle_blocks.proofs.ClosedEqualities.{numbers_say_overlaps, numbers_say_shadows}
use Rattle.isle_blocks.proofs.Counting.{place_of}
use Rattle.isle_blocks.proofs.Sets.GatheredRules.{typed_at, zipped_back}

-- a fault between two rules of one term
abbrev pub FaultOf : (env : TermTables) → AreDefined env → Fault → ℕ → ℕ → Type 0
FaultOf env d Overlap i j = AreOverlapping (facts_by env d) (rules_by env d) i j
FaultOf env d Shadow i j = IsShadowing (facts_by env d) (rules_by env d) i j

pub rivals_of : (env : TermTables) (d : AreDefined env) (fault : Fault) (i j : ℕ) → FaultOf env d fault i j
    → AreRivals (facts_by env d) (rules_by env d) i j
rivals_of env d Overlap i j f = f.rivals
rivals_of env d Shadow i j f = f.rivals

-- whether a term gives any number of answers is what its declaration says
kind_multi : (names : List (List ℕ)) (kind : TermKind) → is_multi_kind kind ≡ (flags_of (form_shown names kind)).multi
kind_multi names (EnumVariant variant) = refl
kind_multi names Struct = refl
kind_multi names (Decl flags constructor_kind extractor_kind) = refl

multi_of : (names : List (List ℕ)) (o : Option Term) → option_map_or (λ (term : Term). is_multi_kind term.kind) o false
    ≡ (flags_of (unwrap_or (option_map (term_shown names) o) no_term).form).multi
multi_of names None = refl
multi_of names (Some term) = kind_multi names term.kind

pub multi_shown : (env : TermTables) (d : AreDefined env) (number : ℕ) → is_multi_in env number ≡ (facts_by env d).multi number
multi_shown env d number =
    multi_of d.tyenv.names (slice_get env.terms number)
    ∙ ap (λ (o : Option Signature). (flags_of (unwrap_or o no_term).form).multi) (sym (slice_get-map (term_shown d.tyenv.names) env.terms number)
    ∙ ap (λ (terms : List Signature). slice_get terms number) d.shows.declared.terms)

-- each site of a table has one number
pub stand_once : (name : Sym → List ℕ) → IsInjective name → (table : List Binding) → AreDistinct table → StandOnce (rows_of name table)
stand_once name injective table once = site_once (rows_of name table) (λ j k row e f.
    let (a, at, is) = mapped_at (row_of name) table j row e in
    let (b, there, same) = mapped_at (row_of name) table k row f in
    let one : a ≡ b = row-injective name injective a b (is ∙ sym same) in
    once b j k (at ∙ ap Some one) there)

-- of numbers in ascending order the earlier is the lesser
pub earlier_less : (P : ℕ → Type 0) (numbers : List ℕ) → ListsNumbers P numbers → (k l i j : ℕ) → slice_get numbers k ≡ Some i
    → slice_get numbers l ≡ Some j → k < l → i < j
earlier_less P numbers lists k l i j at there less =
    let up = lists.ascending k l 0 less (slice_get_within numbers l j there) in
    let first = get_or_from_slice_get numbers k i 0 at in
    let second = get_or_from_slice_get numbers l j 0 there in omega (arith, up, first, second)

pub less_earlier : (P : ℕ → Type 0) (numbers : List ℕ) → ListsNumbers P numbers → (k l i j : ℕ) → slice_get numbers k ≡ Some i
    → slice_get numbers l ≡ Some j → i < j → k < l
less_earlier P numbers lists k l i j at there less = elim (cases_lt k l) [
  | inl lt ↦ lt
  | inr ge ↦ elim (cases_eq k l) [
    | inl same ↦
        let one : i ≡ j = same_Some i j (sym at ∙ ap (λ (x : ℕ). slice_get numbers x) same ∙ there) in absurd (omega arith)
    | inr other ↦ let back = earlier_less P numbers lists l k j i there at (omega arith) in absurd (omega arith)
  ]
]

-- a number stands once
pub one_place : (P : ℕ → Type 0) (numbers : List ℕ) → ListsNumbers P numbers → (k l i : ℕ) → slice_get numbers k ≡ Some i
    → slice_get numbers l ≡ Some i → k ≡ l
one_place P numbers lists k l i at there = elim (cases_lt k l) [
  | inl lt ↦ let up = earlier_less P numbers lists k l i i at there lt in absurd (omega arith)
  | inr ge ↦ elim (cases_eq k l) [
    | inl same ↦ same
    | inr other ↦ let up = earlier_less P numbers lists l k i i there at (omega arith) in absurd (omega arith)
  ]
]

pub number_there : (set : List Rule) (k : ℕ) (made : Rule) → slice_get set k ≡ Some made → number_at set k ≡ made.id.0
number_there set k made at = ap (λ (o : Option Rule). option_map_or (λ (rule : Rule). rule.id.0) o 0) at

module _ (env : TermTables) (d : AreDefined env) (term : ℕ) (set : RulesOverSites)
    (is : IsSetOf (name_of env d) (facts_by env d) env.rules (rules_by env d) term set) where
  -- a rule of the set, as the one at a place of the term's rules
  abbrev pub MadeAt : ℕ → Rule → Type 0
  MadeAt i made = IsMadeAt (name_of env d) (facts_by env d) env.rules (rules_by env d) term set.sites i made

  pub made_there : (k : ℕ) (made : Rule) → slice_get set.rules k ≡ Some made → (i : ℕ) × (slice_get is.places k ≡ Some i) × MadeAt i made
  made_there k made at = zipped_back MadeAt is.places set.rules is.made k made at

  -- it has the number of its place
  pub numbered_by_place : (i : ℕ) (made : Rule) → MadeAt i made → made.id.0 ≡ i
  numbered_by_place i made m =
      ap (λ id. id.0) m.told.id ∙ count_at (λ rule. rule.id.0) 0 env.rules d.shows.numbers i m.source m.source_at
      ∙ (let start : 0 + i ≡ i = omega arith in start)

  -- and the priority of the typed rule
  pub priority_by_place : (i : ℕ) (made : Rule) (m : MadeAt i made) → made.prio ≡ m.reached.rule.priority
  priority_by_place i made m =
      let (typed, there, shown) = typed_at env d i m.source m.source_at in
      let one : typed ≡ m.reached.rule = same_Some typed m.reached.rule (sym there ∙ m.reached.at) in
      m.told.prio ∙ shown.priority ∙ ap (λ (r : TypedRule). r.priority) one

  once : StandOnce (rows_of (name_of env d) set.sites)
  once = stand_once (name_of env d) (name_by_injective d.tyenv.names d.once) set.sites is.table.once

  demands : TypedRule → Demand → Type 0
  demands rule = DemandOf (facts_by env d) rule

  -- two rules at places overlap exactly where those of the set do
  overlap_said : (i j : ℕ) (a b : Rule) (m : MadeAt i a) (n : MadeAt j b)
      → rules.Overlaps a b ↔ faults.Overlaps (DemandOf (facts_by env d) m.reached.rule) m.reached.rule.priority
      (DemandOf (facts_by env d) n.reached.rule) n.reached.rule.priority
  overlap_said i j a b m n =
      let said = numbers_say_overlaps (name_of env d) (name_by_injective d.tyenv.names d.once) (rows_of (name_of env d) set.sites) once
      _ _ a b m.closed n.closed in
      let first = priority_by_place i a m in
      let second = priority_by_place j b n in (
        λ h. let (same, may) = said.0 h in (sym first ∙ same ∙ second, may),
        λ h. let (same, may) = h in said.1 (first ∙ same ∙ sym second, may),
      )

  shadow_said : (i j : ℕ) (a b : Rule) (m : MadeAt i a) (n : MadeAt j b)
      → rules.Shadows a b ↔ faults.Shadows (DemandOf (facts_by env d) m.reached.rule) (DemandOf (facts_by env d) n.reached.rule)
      m.reached.rule.priority n.reached.rule.priority
  shadow_said i j a b m n =
      let said = numbers_say_shadows (name_of env d) (name_by_injective d.tyenv.names d.once) (rows_of (name_of env d) set.sites) once
      _ _ a b m.closed n.closed in
      let D = DemandOf (facts_by env d) m.reached.rule in
      let E = DemandOf (facts_by env d) n.reached.rule in
      let first = priority_by_place i a m in
      let second = priority_by_place j b n in (
        λ h. subst (λ (p : ℤ). faults.Shadows D E p n.reached.rule.priority) first
            (subst (λ (q : ℤ). faults.Shadows D E a.prio q) second (said.0 h)),
        λ h. said.1 (subst (λ (p : ℤ). faults.Shadows D E p b.prio) (sym first)
            (subst (λ (q : ℤ). faults.Shadows D E m.reached.rule.priority q) (sym second) h)),
      )

  -- the rules at places of the set whose numbers these are have the fault
  pub record StandsFor (fault : Fault) (i j k l : ℕ) : Type 0 where
    pub first : number_at set.rules k ≡ i
    pub second : number_at set.rules l ≡ j
    pub fault_at : FaultAt set.rules fault k l

  rivals_here : (facts_by env d).multi term ≡ false → (i j : ℕ) (a b : Rule) → MadeAt i a → MadeAt j b
      → AreRivals (facts_by env d) (rules_by env d) i j
  rivals_here single i j a b m n = record { term = term; first = m.reached; second = n.reached; single = single }

  -- each fault between rules of the set is one between the rules of these numbers
  pub fault_here : (facts_by env d).multi term ≡ false → (fault : Fault) (k l : ℕ) → FaultAt set.rules fault k l
      → (i : ℕ) × (j : ℕ) × (slice_get is.places k ≡ Some i) × (slice_get is.places l ≡ Some j) × StandsFor fault i j k l × FaultOf env d fault i j
      × MayMatchAt (facts_by env d) (rules_by env d) term i
  unfolding rivals_here made_there
  fault_here single Overlap k l f =
      let (i, i_at, m) = made_there k f.first f.first_at in
      let (j, j_at, n) = made_there l f.second f.second_at in (
        i,
        j,
        i_at,
        j_at,
        record {
          first = number_there set.rules k f.first f.first_at ∙ numbered_by_place i f.first m;
          second = number_there set.rules l f.second f.second_at ∙ numbered_by_place j f.second n;
          fault_at = f;
        },
        record {
          rivals = rivals_here single i j f.first f.second m n;
          in_order = earlier_less (MayMatchAt (facts_by env d) (rules_by env d) term) is.places is.listed k l i j i_at j_at f.in_order;
          overlap = (overlap_said i j f.first f.second m n).0 f.overlap;
        },
        m.reached,
      )
  fault_here single Shadow k l f =
      let (i, i_at, m) = made_there k f.high f.high_at in
      let (j, j_at, n) = made_there l f.low f.low_at in (
        i,
        j,
        i_at,
        j_at,
        record {
          first = number_there set.rules k f.high f.high_at ∙ numbered_by_place i f.high m;
          second = number_there set.rules l f.low f.low_at ∙ numbered_by_place j f.low n;
          fault_at = f;
        },
        record {
          rivals = rivals_here single i j f.high f.low m n;
          shadow = (shadow_said i j f.high f.low m n).0 f.shadow;
        },
        m.reached,
      )

  -- a rule of the term that may match stands in the set
  pub reached_there : (i : ℕ) → MayMatchAt (facts_by env d) (rules_by env d) term i
      → (k : ℕ) × (made : Rule) × (slice_get is.places k ≡ Some i) × (slice_get set.rules k ≡ Some made) × MadeAt i made
  reached_there i may =
      let (k, at) = place_of is.places i ((is.listed.all i).1 may) in
      let (made, there, m) = zipped_at MadeAt is.places set.rules is.made k i at in
      (k, made, at, there, m)

  same_rule : (i : ℕ) (one other : TypedRule) → slice_get (rules_by env d) i ≡ Some one → slice_get (rules_by env d) i ≡ Some other → one ≡ other
  same_rule i one other at there = same_Some one other (sym at ∙ there)

  of_this : (i root : ℕ) → root ≡ term → MayMatchAt (facts_by env d) (rules_by env d) root i → MayMatchAt (facts_by env d) (rules_by env d) term i
  of_this i root same may = subst (λ (t : ℕ). MayMatchAt (facts_by env d) (rules_by env d) t i) same may

  -- each fault between rules of the term is one between rules of the set
  pub fault_there : (fault : Fault) (i j : ℕ) (f : FaultOf env d fault i j) → (rivals_of env d fault i j f).term ≡ term
      → (k : ℕ) × (l : ℕ) × StandsFor fault i j k l
  unfolding rivals_of
  fault_there Overlap i j f own =
      let (k, a, k_at, a_at, m) = reached_there i (of_this i f.rivals.term own f.rivals.first) in
      let (l, b, l_at, b_at, n) = reached_there j (of_this j f.rivals.term own f.rivals.second) in
      let one = same_rule i f.rivals.first.rule m.reached.rule f.rivals.first.at m.reached.at in
      let other = same_rule j f.rivals.second.rule n.reached.rule f.rivals.second.at n.reached.at in
      let said = subst (λ (r : TypedRule). faults.Overlaps (DemandOf (facts_by env d) r) r.priority
      (DemandOf (facts_by env d) n.reached.rule) n.reached.rule.priority) one
      (subst (λ (r : TypedRule). faults.Overlaps (DemandOf (facts_by env d) f.rivals.first.rule) f.rivals.first.rule.priority
      (DemandOf (facts_by env d) r) r.priority) other f.overlap) in (
        k,
        l,
        record {
          first = number_there set.rules k a a_at ∙ numbered_by_place i a m;
          second = number_there set.rules l b b_at ∙ numbered_by_place j b n;
          fault_at = record {
            first = a;
            second = b;
            first_at = a_at;
            second_at = b_at;
            in_order = less_earlier (MayMatchAt (facts_by env d) (rules_by env d) term) is.places is.listed k l i j k_at l_at f.in_order;
            overlap = (overlap_said i j a b m n).1 said;
          };
        },
      )
  fault_there Shadow i j f own =
      let (k, a, k_at, a_at, m) = reached_there i (of_this i f.rivals.term own f.rivals.first) in
      let (l, b, l_at, b_at, n) = reached_there j (of_this j f.rivals.term own f.rivals.second) in
      let one = same_rule i f.rivals.first.rule m.reached.rule f.rivals.first.at m.reached.at in
      let other = same_rule j f.rivals.second.rule n.reached.rule f.rivals.second.at n.reached.at in
      let said = subst (λ (r : TypedRule). faults.Shadows (DemandOf (facts_by env d) r) (DemandOf (facts_by env d) n.reached.rule) r.priority
      n.reached.rule.priority) one
      (subst (λ (r : TypedRule). faults.Shadows (DemandOf (facts_by env d) f.rivals.first.rule) (DemandOf (facts_by env d) r)
      f.rivals.first.rule.priority r.priority) other f.shadow) in (
        k,
        l,
        record {
          first = number_there set.rules k a a_at ∙ numbered_by_place i a m;
          second = number_there set.rules l b b_at ∙ numbered_by_place j b n;
          fault_at = record {
            high = a;
            low = b;
            high_at = a_at;
            low_at = b_at;
            shadow = (shadow_said i j a b m n).1 said;
          };
        },
      )
