-- The faults between the rules of all rule sets are listed, each once.
use Rattle.std.proofs.Common.{◌≡◌, ◌≢◌, ◌<◌, ◌↔◌, ◌⊎◌, inl, inr, ℕ, suc, List, [], ◌∷◌, ◌++◌, true, false, Some, length, map, slice_get, refl, sym, ap, subst, ◌∙◌, arith, get_or}
use Rattle.std.specs.Prelude.{Contains, ◌<ℤ◌}
use lib.Signed.{<ℤ_irrefl}
use Rattle.std.specs.List.{AllZip}
use Rattle.std.proofs.lemmas.Bool.{cases_eq, cases_lt, true≢false}
use Rattle.std.proofs.lemmas.Option.{same_Some, none-some, get_or_from_slice_get, slice_get_within}
use Rattle.std.proofs.lemmas.List.Elements.{Contains-append_left, Contains-append_right, Contains-append_cases, Contains-push, Contains-push_cases, All-from_get_or, Contains-get_or}
use Rattle.isle_containers.proofs.Lists.{slice_get-kept, slice_get-last}
use Rattle.isle_types.proofs.Zipped.{mapped_at, all_at}
use Rattle.isle_containers.proofs.RootedTables.{Contains-map}
use Rattle.isle_types.specs.TypeEnvs.{CountUp}
use Rattle.isle_types.specs.declared.ids.TermId.{TermId}
use Rattle.isle_rules.specs.declared.rules.Rule as source
use Rattle.isle_rules.specs.TypedRules.{TypedRule}
use Rattle.isle_rules.specs.Shown.TermTables.{TermTables}
use Rattle.isle_rules.specs.Shown.RulesShown.{IsShownRule}
use Rattle.isle_rules.proofs.Zipped.{zipped_length}
use Rattle.isle_blocks.specs.declared.faults.Fault.{Fault}
use Rattle.isle_blocks.specs.declared.faults.Fault.TheVariants.{Overlap, Shadow}
use Rattle.isle_blocks.specs.FaultsBetween.{FaultAt, ListsPairs, IsBefore}
use Rattle.isle_blocks.specs.Reports.{ArePairs}
use Rattle.isle_blocks.specs.RuleFaults.{MayMatchAt, ListsEach, places_from}
use Rattle.isle_blocks.specs.RuleSets.{RulesOverSites}
use Rattle.isle_blocks.specs.DefinedSets.{AreDefined, name_of, facts_by, rules_by, IsTermSet, IsSetOf, AreSetsOf}
use Rattle.isle_blocks.specs.Inside.RivalLists.{ListsFaults, no_set_listed, passed_over, one_set_listed, numbered, place_of}
use Rattle.isle_rules.specs.Shown.TermTables.{is_multi_in}
use Rattle.isle_blocks.proofs.Counting.{Once, stands_at, once_both}
use Rattle.isle_blocks.proofs.Counting as counting
use Rattle.isle_blocks.proofs.RuleFaults.RivalRules.{FaultOf, rivals_of, multi_shown, one_place, fault_here, fault_there}

-- pairs in ascending order stand once each
pub pairs_stand_once : (P : ℕ → ℕ → Type 0) (pairs : List (ℕ × ℕ)) → ListsPairs P pairs → Once pairs
pairs_stand_once P pairs lists i j x e f = elim (cases_lt i j) [
  | inl lt ↦ absurd (not_twice i j lt e f)
  | inr ge ↦ elim (cases_eq i j) [
    | inl same ↦ same
    | inr other ↦ absurd (not_twice j i (omega arith) f e)
  ]
]
  where
    not_twice : (k l : ℕ) → k < l → slice_get pairs k ≡ Some x → slice_get pairs l ≡ Some x → ⊥
    not_twice k l less at there =
        let first = get_or_from_slice_get pairs k x x at in
        let second = get_or_from_slice_get pairs l x x there in
        let before = subst (λ (p : ℕ × ℕ). IsBefore p x.0 x.1) first
        (subst (λ (q : ℕ × ℕ). IsBefore (get_or pairs k x) q.0 q.1) second (lists.ascending k l x less (slice_get_within pairs l x there))) in
        elim before [ inl lt ↦ absurd (omega arith) | inr both ↦ let (same, lt) = both in absurd (omega arith) ]

-- how faults name the rules
pub places_are : (names : List (List ℕ)) (typed : List TypedRule) (rules : List source.Rule) (n : ℕ) → AllZip (IsShownRule names) typed rules
    → CountUp (λ (rule : source.Rule). rule.id.0) n rules → map place_of rules ≡ places_from n typed
places_are names [] [] n each counted = refl
places_are names [] (r ∷ rules) n each counted = absurd each
places_are names (t ∷ typed) [] n each counted = absurd each
places_are names (t ∷ typed) (r ∷ rules) n each counted =
    let pos = each.0.pos in
    let number = counted.0 in
    let rest = places_are names typed rules (suc n) each.1 counted.1 in
    λ i. record { pos = pos i; id = record { 0 = number i } } ∷ rest i

module _ (env : TermTables) (d : AreDefined env) (fault : Fault) where
  -- the rule at a place is one of a term
  pub record HasRoot (i term : ℕ) : Type 0 where
    pub rule : TypedRule
    pub at : slice_get (rules_by env d) i ≡ Some rule
    pub of_term : rule.root ≡ term

  root_of : (i term : ℕ) → MayMatchAt (facts_by env d) (rules_by env d) term i → HasRoot i term
  root_of i term may = record { rule = may.rule; at = may.at; of_term = may.of_term }

  -- a rule is of one term
  one_root : (i term other : ℕ) → HasRoot i term → HasRoot i other → term ≡ other
  one_root i term other a b =
      let same : a.rule ≡ b.rule = same_Some a.rule b.rule (sym a.at ∙ b.at) in
      sym a.of_term ∙ ap (λ (r : TypedRule). r.root) same ∙ b.of_term

  fault_root : (i j : ℕ) (f : FaultOf env d fault i j) → HasRoot i (rivals_of env d fault i j f).term
  fault_root i j f = let rivals = rivals_of env d fault i j f in root_of i rivals.term rivals.first

  -- the faults between a term's rules, each once
  pub record AreFaultsOf (term : ℕ) (pairs : List (ℕ × ℕ)) : Type 0 where
    pub all : (i j : ℕ) → Contains pairs (i, j) ↔ (FaultOf env d fault i j × HasRoot i term)
    pub once : Once pairs

  module _ (term : ℕ) (set : RulesOverSites) (is : IsSetOf (name_of env d) (facts_by env d) env.rules (rules_by env d) term set)
      (single : (facts_by env d).multi term ≡ false) (ps : List (ℕ × ℕ)) (lists : ListsPairs (FaultAt set.rules fault) ps) where
    fault_listed : (p : ℕ × ℕ) (n : ℕ) → slice_get ps n ≡ Some p → FaultAt set.rules fault p.0 p.1
    fault_listed p n at = (lists.all p.0 p.1).0 (stands_at ps n p at)

    from_listed : (i j : ℕ) → Contains (map (numbered set.rules) ps) (i, j) → FaultOf env d fault i j × HasRoot i term
    from_listed i j among =
        let (n, at) = counting.place_of (map (numbered set.rules) ps) (i, j) among in
        let (p, there, same) = mapped_at (numbered set.rules) ps n (i, j) at in
        let (a, b, a_at, b_at, stands, f, may) = fault_here env d term set is single fault p.0 p.1 (fault_listed p n there) in
        let first : a ≡ i = sym stands.first ∙ ap (λ (q : ℕ × ℕ). q.0) same in
        let second : b ≡ j = sym stands.second ∙ ap (λ (q : ℕ × ℕ). q.1) same in (
          subst (λ (x : ℕ). FaultOf env d fault x j) first (subst (λ (y : ℕ). FaultOf env d fault a y) second f),
          subst (λ (x : ℕ). HasRoot x term) first (root_of a term may),
        )

    to_listed : (i j : ℕ) → FaultOf env d fault i j × HasRoot i term → Contains (map (numbered set.rules) ps) (i, j)
    to_listed i j (f, root) =
        let own = one_root i (rivals_of env d fault i j f).term term (fault_root i j f) root in
        let (k, l, stands) = fault_there env d term set is fault i j f own in
        let first = stands.first in
        let second = stands.second in
        subst (λ (q : ℕ × ℕ). Contains (map (numbered set.rules) ps) q) (λ x. (first x, second x))
        (Contains-map (numbered set.rules) ps (k, l) ((lists.all k l).1 stands.fault_at))

    listed_once : Once (map (numbered set.rules) ps)
    listed_once m n q e g =
        let (p, p_at, p_is) = mapped_at (numbered set.rules) ps m q e in
        let (r, r_at, r_is) = mapped_at (numbered set.rules) ps n q g in
        let (a, b, a_at, b_at, one, f, may) = fault_here env d term set is single fault p.0 p.1 (fault_listed p m p_at) in
        let (c, h, c_at, h_at, other, k, may_too) = fault_here env d term set is single fault r.0 r.1 (fault_listed r n r_at) in
        let same : numbered set.rules p ≡ numbered set.rules r = p_is ∙ sym r_is in
        let first : c ≡ a = sym other.first ∙ sym (ap (λ (z : ℕ × ℕ). z.0) same) ∙ one.first in
        let second : h ≡ b = sym other.second ∙ sym (ap (λ (z : ℕ × ℕ). z.1) same) ∙ one.second in
        let left : p.0 ≡ r.0 = one_place (MayMatchAt (facts_by env d) (rules_by env d) term) is.places is.listed p.0 r.0 a a_at
        (c_at ∙ ap Some first) in
        let right : p.1 ≡ r.1 = one_place (MayMatchAt (facts_by env d) (rules_by env d) term) is.places is.listed p.1 r.1 b b_at
        (h_at ∙ ap Some second) in
        let equal : p ≡ r = (λ x. (left x, right x)) in
        pairs_stand_once (FaultAt set.rules fault) ps lists m n p p_at (r_at ∙ ap Some (sym equal))

    pub faults_of_set : AreFaultsOf term (map (numbered set.rules) ps)
    faults_of_set = record { all = λ i j. (from_listed i j, to_listed i j); once = listed_once }

  -- a rule is of one of the terms with these sets
  pub record IsCovered (sets : List (TermId × RulesOverSites)) (i : ℕ) : Type 0 where
    pub pair : TermId × RulesOverSites
    pub among : Contains sets pair
    pub root : HasRoot i pair.0.0

  -- the faults between rules of the terms with these sets, each once
  pub record AreFaultsIn (sets : List (TermId × RulesOverSites)) (pairs : List (ℕ × ℕ)) : Type 0 where
    pub all : (i j : ℕ) → Contains pairs (i, j) ↔ (FaultOf env d fault i j × IsCovered sets i)
    pub once : Once pairs

  -- rule sets of different terms
  pub record AreSets (sets : List (TermId × RulesOverSites)) : Type 0 where
    pub each : (n : ℕ) (pair : TermId × RulesOverSites) → slice_get sets n ≡ Some pair → IsTermSet env d pair
    pub apart : (m n : ℕ) (one other : TermId × RulesOverSites) → slice_get sets m ≡ Some one → slice_get sets n ≡ Some other → m < n
        → one.0.0 < other.0.0

  before_last : (sets : List (TermId × RulesOverSites)) (pair : TermId × RulesOverSites) → AreSets (sets ++ pair ∷ []) → AreSets sets
  before_last sets pair are = record {
    each = λ n p at. are.each n p (slice_get-kept sets (pair ∷ []) n p at);
    apart = λ m n one other at there less. are.apart m n one other (slice_get-kept sets (pair ∷ []) m one at)
        (slice_get-kept sets (pair ∷ []) n other there) less;
  }

  -- the last term isn't one of those before
  last_apart : (sets : List (TermId × RulesOverSites)) (pair other : TermId × RulesOverSites) → AreSets (sets ++ pair ∷ []) → Contains sets other
      → other.0.0 < pair.0.0
  last_apart sets pair other are among =
      let (n, at) = counting.place_of sets other among in
      are.apart n (length sets) other pair (slice_get-kept sets (pair ∷ []) n other at) (slice_get-last sets pair) (slice_get_within sets n other at)

  covered_more : (sets : List (TermId × RulesOverSites)) (pair : TermId × RulesOverSites) (i : ℕ) → IsCovered sets i → IsCovered (sets ++ pair ∷ []) i
  covered_more sets pair i c = record { pair = c.pair; among = Contains-append_left sets (pair ∷ []) c.pair c.among; root = c.root }

  covered_cases : (sets : List (TermId × RulesOverSites)) (pair : TermId × RulesOverSites) (i : ℕ) → IsCovered (sets ++ pair ∷ []) i
      → IsCovered sets i ⊎ HasRoot i pair.0.0
  covered_cases sets pair i c = elim (Contains-push_cases sets pair c.pair c.among) [
    | inl old ↦ inl (record { pair = c.pair; among = old; root = c.root })
    | inr same ↦ inr (subst (λ (p : TermId × RulesOverSites). HasRoot i p.0.0) (sym same) c.root)
  ]

  last_covered : (sets : List (TermId × RulesOverSites)) (pair : TermId × RulesOverSites) (i : ℕ) → HasRoot i pair.0.0
      → IsCovered (sets ++ pair ∷ []) i
  last_covered sets pair i root = record { pair = pair; among = Contains-push sets pair; root = root }

  -- a term that gives any number of answers has no faults between its rules
  multi_has_none : (i j term : ℕ) → FaultOf env d fault i j → HasRoot i term → is_multi_in env term ≡ true → ⊥
  multi_has_none i j term f root multi =
      let rivals = rivals_of env d fault i j f in
      let same = one_root i rivals.term term (fault_root i j f) root in
      true≢false (sym multi ∙ multi_shown env d term ∙ ap (facts_by env d).multi (sym same) ∙ rivals.single)

  none_twice : Once {X = ℕ × ℕ} []
  none_twice i j x e f = absurd (none-some x e)

  pub faults_so_far : (sets : List (TermId × RulesOverSites)) (pairs : List (ℕ × ℕ)) → ListsFaults (is_multi_in env) fault sets pairs
      → AreSets sets → AreFaultsIn sets pairs
  faults_so_far sets pairs no_set_listed are = record {
    all = λ i j. (
      λ among. let (n, at) = counting.place_of [] (i, j) among in absurd (none-some (i, j) at),
      λ (f, covered). let (n, at) = counting.place_of [] covered.pair covered.among in absurd (none-some covered.pair at),
    );
    once = none_twice;
  }
  faults_so_far sets pairs (passed_over {sets = before} pair lists multi) are =
      let told = faults_so_far before pairs lists (before_last before pair are) in
      record {
        all = λ i j. (
          λ among. let (f, covered) = (told.all i j).0 among in (f, covered_more before pair i covered),
          λ (f, covered). elim (covered_cases before pair i covered) [
            | inl old ↦ (told.all i j).1 (f, old)
            | inr root ↦ absurd (multi_has_none i j pair.0.0 f root multi)
          ],
        );
        once = told.once;
      }
  faults_so_far sets pairs (one_set_listed {sets = before} {old = old} new pair lists single adds) are =
      let told = faults_so_far before old lists (before_last before pair are) in
      let is = (are.each (length before) pair (slice_get-last before pair)).1 in
      let own = faults_of_set pair.0.0 pair.1 is (sym (multi_shown env d pair.0.0) ∙ single) adds.pairs adds.listed in
      let more = map (numbered pair.1.rules) adds.pairs in
      record {
        all = λ i j. (
          λ among. elim (Contains-append_cases old more (i, j) (subst (λ (l : List (ℕ × ℕ)). Contains l (i, j)) adds.added among)) [
            | inl before_it ↦ let (f, covered) = (told.all i j).0 before_it in (f, covered_more before pair i covered)
            | inr here ↦ let (f, root) = (own.all i j).0 here in (f, last_covered before pair i root)
          ],
          λ (f, covered). subst (λ (l : List (ℕ × ℕ)). Contains l (i, j)) (sym adds.added) (elim (covered_cases before pair i covered) [
            | inl before_it ↦ Contains-append_left old more (i, j) ((told.all i j).1 (f, before_it))
            | inr root ↦ Contains-append_right old more (i, j) ((own.all i j).1 (f, root))
          ]),
        );
        once = subst (λ (l : List (ℕ × ℕ)). Once l) (sym adds.added) (once_both old more told.once own.once (λ q here there.
            let (f, covered) = (told.all q.0 q.1).0 here in
            let (g, root) = (own.all q.0 q.1).0 there in
            let less = last_apart before pair covered.pair are covered.among in
            let same = one_root q.0 covered.pair.0.0 pair.0.0 covered.root root in omega (arith, less, same)));
      }

  -- with the sets of all terms, all faults
  pub faults_listed : (sets : List (TermId × RulesOverSites)) (pairs : List (ℕ × ℕ)) → ListsFaults (is_multi_in env) fault sets pairs
      → AreSetsOf env d sets → ListsEach (FaultOf env d fault) pairs
  faults_listed sets pairs lists are =
      let told = faults_so_far sets pairs lists (record { each = all_at (IsTermSet env d) sets are.each; apart = are.ascending }) in
      record {
        all = λ i j. (
          λ among. ((told.all i j).0 among).0,
          λ f.
              let rivals = rivals_of env d fault i j f in
              let (set, among) = are.all rivals.term (record {
                place = i;
                rule = rivals.first.rule;
                at = rivals.first.at;
                of_term =
                    rivals.first.of_term;
              }) in
              (told.all i j).1 (f, record { pair = (record { 0 = rivals.term }, set); among = among; root = fault_root i j f }),
        );
        once = λ x i j e f. told.once i j x e f;
      }

  -- a rule has no fault with itself
  apart_from_itself : (i j : ℕ) → FaultOf env d fault i j → i ≢ j
  apart_from_itself i j f same = differ fault f
    where
      differ : (fault : Fault) → FaultOf env d fault i j → ⊥
      differ Overlap f = let less = f.in_order in omega (arith, same)
      differ Shadow f =
          let one : f.rivals.first.rule ≡ f.rivals.second.rule = same_Some f.rivals.first.rule f.rivals.second.rule
          (sym f.rivals.first.at ∙ ap (λ (x : ℕ). slice_get (rules_by env d) x) same ∙ f.rivals.second.at) in
          absurd (<ℤ_irrefl (subst (λ (r : TypedRule). f.rivals.second.rule.priority <ℤ r.priority) one f.shadow.above))

  -- each pair is of two rules
  pub faults_are_pairs : (pairs : List (ℕ × ℕ)) → ListsEach (FaultOf env d fault) pairs → ArePairs (length env.rules) pairs
  faults_are_pairs pairs lists =
      let size = zipped_length (IsShownRule d.tyenv.names) (rules_by env d) env.rules d.shows.rules in
      All-from_get_or (λ (pair : ℕ × ℕ). (pair.0 < length env.rules) × (pair.1 < length env.rules) × (pair.0 ≢ pair.1)) pairs (0, 0) (λ n within.
      let pair = get_or pairs n (0, 0) in
      let f = (lists.all pair.0 pair.1).0 (Contains-get_or pairs n (0, 0) within) in
      let rivals = rivals_of env d fault pair.0 pair.1 f in
      let first = slice_get_within (rules_by env d) pair.0 rivals.first.rule rivals.first.at in
      let second = slice_get_within (rules_by env d) pair.1 rivals.second.rule rivals.second.at in
      (omega (arith, first, size), omega (arith, second, size), apart_from_itself pair.0 pair.1 f))
