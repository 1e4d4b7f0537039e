-- Rules without errors are faultless.
use Rattle.std.proofs.Common.{◌≡◌, ◌≤◌, ◌++◌, ◌⊎◌, inl, inr, ℕ, zero, suc, List, [], ◌∷◌, length, Some, slice_get, refl, sym, ap, subst, ◌∙◌, arith}
use Rattle.std.proofs.lemmas.Bool.{cases_eq}
use Rattle.std.proofs.lemmas.Option.{same_Some, none-some}
use Rattle.std.proofs.lemmas.List.{length-map}
use Rattle.std.proofs.lemmas.List.Sorted.{length_permutation}
use Rattle.isle_ast.specs.declared.error.Error.{Error}
use Rattle.isle_types.specs.declared.ids.TermId.{TermId}
use Rattle.isle_types.proofs.Zipped.{zipped_at, all_at}
use Rattle.isle_containers.proofs.Lists.{slice_get-pushed}
use Rattle.isle_rules.specs.TypedRules.{TypedRule}
use Rattle.isle_rules.specs.Shown.TermTables.{TermTables}
use Rattle.isle_meaning.specs.Facts.{TermFacts}
use Rattle.isle_blocks.specs.declared.faults.Fault.{Fault}
use Rattle.isle_blocks.specs.declared.faults.Fault.TheVariants.{Overlap, Shadow}
use Rattle.isle_blocks.specs.declared.report.RulePlace.{RulePlace}
use Rattle.isle_blocks.specs.declared.report.Group.{Group}
use Rattle.isle_blocks.specs.DefinedSets.{AreDefined, name_of, facts_by, rules_by, HasRules, IsTermSet, IsMadeAt, AreSetsOf}
use Rattle.isle_blocks.specs.Reports.{AreGroups, no_pairs, headed, IsReport, error_of}
use Rattle.isle_blocks.specs.Rows.{row_of, rows_of}
use Rattle.isle_blocks.specs.RuleFaults.{NeverMatches, IsUnreachableAt, ListsEach, TellRivals}
use Rattle.isle_blocks.specs.RuleFaults.{TellUnreachable, no_rules_told, one_may_match, one_never_matches, FitTogether, SitesStand, AreWithinSize, AreFaultless, places_from}
use Rattle.isle_blocks.specs.RuleSets.{RulesOverSites}
use Rattle.isle_blocks.proofs.Counting.{place_of}

no_more : {X : Type 0} (xs : List X) (x : X) → xs ++ x ∷ [] ≡ [] → ⊥
no_more [] x e = absurd cc
no_more (y ∷ xs) x e = absurd cc

both_none : {X : Type 0} (xs ys : List X) → length (xs ++ ys) ≡ 0 → (xs ≡ []) × (ys ≡ [])
both_none [] [] e = (refl, refl)
both_none [] (y ∷ ys) e = absurd (omega arith)
both_none (x ∷ xs) ys e = absurd (omega arith)

none_of : {X : Type 0} (xs : List X) → length xs ≡ 0 → xs ≡ []
none_of [] e = refl
none_of (x ∷ xs) e = absurd (omega arith)

module _ (facts : TermFacts) where
  -- without an error each rule may match
  pub all_may_match : (rules : List TypedRule) (errors : List Error) → TellUnreachable facts rules errors → errors ≡ [] → (i : ℕ)
      → IsUnreachableAt facts rules i → ⊥
  all_may_match rules errors no_rules_told none i u = absurd (none-some u.rule u.at)
  all_may_match rules errors (one_may_match {rules = before} rule may told) none i u = elim (slice_get-pushed before rule i u.rule u.at) [
    | inl old ↦ all_may_match before errors told none i (record { rule = u.rule; at = old; never = u.never })
    | inr (last, same) ↦ may (subst (λ (r : TypedRule). NeverMatches facts r) (sym same) u.never)
  ]
  all_may_match rules errors (one_never_matches {errors = before} rule never told) none i u = absurd (no_more before _ none)

  -- faultless rules are within the size
  pub faultless_within : (rules : List TypedRule) → AreFaultless facts rules → (term : ℕ) → AreWithinSize facts rules term
  faultless_within rules faultless term =
      let fit = faultless.fit term in
      record {
        alone = λ i rule at of_term. record {
          table = fit.table;
          few = fit.few;
          own = (fit.stand i (record {
            rule = rule;
            at = at;
            of_term = of_term;
            may = λ never. faultless.reachable i (record { rule = rule; at = at; never = never });
          })).own;
        };
        together = fit;
      }

-- groups are made of pairs
no_groups : (fault : Fault) (rules : List RulePlace) (pairs : List (ℕ × ℕ)) (groups : List Group) → AreGroups fault rules pairs groups
    → groups ≡ [] → pairs ≡ []
no_groups fault rules pairs groups no_pairs none = refl
no_groups fault rules pairs groups (headed some greatest group more) none = absurd cc

-- without an error there are no pairs
pub no_pairs_left : (rules : List RulePlace) (overlaps shadows : List (ℕ × ℕ)) (errors : List Error) → IsReport rules overlaps shadows errors
    → errors ≡ []
    → (overlaps ≡ []) × (shadows ≡ [])
no_pairs_left rules overlaps shadows errors report none =
    let empty : length report.sorted ≡ 0 = sym (length-map report.sorted error_of) ∙ ap length (sym report.errors_are ∙ none) in
    let all : length (report.overlapping ++ report.shadowing) ≡ 0 =
    sym (length_permutation (report.overlapping ++ report.shadowing) report.sorted report.moved) ∙ empty in
    let (first, second) = both_none report.overlapping report.shadowing all in (
      no_groups Overlap rules overlaps report.overlapping report.overlapping_are first,
      no_groups Shadow rules shadows report.shadowing report.shadowing_are second,
    )

none_listed : {P : ℕ → ℕ → Type 0} (pairs : List (ℕ × ℕ)) → ListsEach P pairs → pairs ≡ [] → (i j : ℕ) → P i j → ⊥
none_listed pairs lists none i j p =
    let (k, at) = place_of pairs (i, j) ((lists.all i j).1 p) in
    absurd (none-some (i, j) (ap (λ (l : List (ℕ × ℕ)). slice_get l k) (sym none) ∙ at))

-- a rule of a term is the first, or one of the others
split : (rule : TypedRule) (rules : List TypedRule) (term place : ℕ) (r : TypedRule) → slice_get (rule ∷ rules) place ≡ Some r → r.root ≡ term
    → (rule.root ≡ term) ⊎ HasRules rules term
split rule rules term zero r at of_term = inl (ap (λ (x : TypedRule). x.root) (same_Some rule r at) ∙ of_term)
split rule rules term (suc k) r at of_term = inr (record { place = k; rule = r; at = at; of_term = of_term })

-- whether a term is the root of a rule
root_cases : (rules : List TypedRule) (term : ℕ) → HasRules rules term ⊎ (HasRules rules term → ⊥)
root_cases [] term = inr (λ h. none-some h.rule h.at)
root_cases (rule ∷ rules) term = elim (cases_eq rule.root term) [
  | inl same ↦ inl (record { place = 0; rule = rule; at = refl; of_term = same })
  | inr other ↦ elim (root_cases rules term) [
    | inl h ↦ inl (record { place = suc h.place; rule = h.rule; at = h.at; of_term = h.of_term })
    | inr none ↦ inr (λ h. elim (split rule rules term h.place h.rule h.at h.of_term) [ inl same ↦ other same | inr later ↦ none later ])
  ]
]

module _ (env : TermTables) (d : AreDefined env) where
  -- the sites of a term's rules fit in its rule set's table
  pub sets_fit : (sets : List (TermId × RulesOverSites)) → AreSetsOf env d sets → (term : ℕ) → FitTogether (facts_by env d) (rules_by env d) term
  sets_fit sets are term = elim (root_cases (rules_by env d) term) [
    | inl has ↦
        let (set, among) = are.all term has in
        let (k, at) = place_of sets (record { 0 = term }, set) among in
        let is = (all_at (IsTermSet env d) sets are.each k (record { 0 = term }, set) at).1 in
        record {
          table = rows_of (name_of env d) set.sites;
          few = subst (λ (n : ℕ). n ≤ 65536) (sym (length-map set.sites (row_of (name_of env d)))) is.few;
          stand = λ i reached.
              let (l, there) = place_of is.places i ((is.listed.all i).1 reached) in
              let (made, made_at, m) = zipped_at (IsMadeAt (name_of env d) (facts_by env d) env.rules (rules_by env d) term set.sites)
              is.places set.rules is.made
              l i there in
              subst (λ (r : TypedRule). SitesStand (facts_by env d) (rows_of (name_of env d) set.sites) r)
              (same_Some m.reached.rule reached.rule (sym m.reached.at ∙ reached.at)) m.stand;
        }
    | inr none ↦ record {
      table = [];
      few = omega arith;
      stand = λ i reached. absurd (none (record { place = i; rule = reached.rule; at = reached.at; of_term = reached.of_term }));
    }
  ]

  -- without an error the rules are faultless
  pub faultless : (sets : List (TermId × RulesOverSites)) (unreachable between : List Error) → AreSetsOf env d sets
      → TellUnreachable (facts_by env d) (rules_by env d) unreachable → TellRivals (facts_by env d) (rules_by env d) between
      → unreachable ++ between ≡ []
      → AreFaultless (facts_by env d) (rules_by env d)
  faultless sets unreachable between are told rivals none =
      let (first, second) = both_none unreachable between (ap length none) in
      let (overlaps, shadows) = no_pairs_left (places_from 0 (rules_by env d)) rivals.overlaps rivals.shadows between rivals.report second in
      record {
        reachable = all_may_match (facts_by env d) (rules_by env d) unreachable told first;
        apart = none_listed rivals.overlaps rivals.overlaps_are overlaps;
        seen = none_listed rivals.shadows rivals.shadows_are shadows;
        fit = sets_fit sets are;
      }
