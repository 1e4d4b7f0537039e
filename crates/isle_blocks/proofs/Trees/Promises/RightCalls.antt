-- The impure calls of what a rule's right side has are its own: where their answers are allowed, so are those of all its sites.
use Rattle.std.proofs.Common.{◌≡◌, inl, inr, ℕ, suc, ◌+◌, Bool, true, false, List, [], ◌∷◌, ◌++◌, length, map, Option, Some, slice_get}
use Rattle.std.proofs.Common.{refl, sym, ap, subst, ◌∙◌, arith, append_assoc}
use Rattle.isle_types.specs.declared.ids.Sym.{Sym}
use Rattle.isle_rules.specs.declared.rules.Rule as source
use Rattle.isle_rules.specs.TypedRules.{TypedRule}
use Rattle.isle_meaning.specs.AboutSites.ImpureCalls.{ImpureCallsAre, IsImpureCall, IsPure}
use Rattle.isle_meaning.specs.Demands.{impure_of, result_of, vars_of}
use Rattle.isle_meaning.specs.Facts.{TermFacts}
use Rattle.isle_meaning.specs.Held.{Held}
use Rattle.isle_meaning.specs.Numbered.{Row, At}
use Rattle.isle_meaning.specs.Sites.{Site, answer_site, constructor_call, iterator, match_some, site_of, step_site}
use Rattle.isle_meaning.specs.Values.{Value}
use Rattle.isle_meaning.specs.Words.{Step, steps_of, word_of}
use Rattle.isle_meaning.proofs.Chains.Causing.{Causal, get_append, steps_are_causal}
use Rattle.isle_meaning.proofs.Sites.Parts.{EachSite, of_one, part_of, of_whole}
use Rattle.isle_meaning.proofs.Sites.Pure.{demands_are_pure}
use Rattle.isle_meaning.proofs.Sites.Steps.{IsCallOf, call_of, placed_at, steps_placed, word_steps, words_steps}
use Rattle.isle_trees.specs.Rules.{Elem, IsPartOf, Rules, rights}
use Rattle.isle_trees.proofs.Asking.{elem_append}
use Rattle.isle_blocks.specs.declared.constraint.Constraint.{Constraint}
use Rattle.isle_blocks.specs.declared.rule.Rule.{Rule}
use Rattle.isle_blocks.specs.DefinedSets.{IsMadeAt}
use Rattle.isle_blocks.specs.Rows.{rows_of}
use Rattle.isle_blocks.specs.RuleSets.{RulesOverSites}
use Rattle.isle_blocks.specs.Trees.Premises.{IsRunnableSet}
use Rattle.isle_blocks.specs.Trees.RightPromises.{AreAllowed}
use Rattle.isle_blocks.specs.Trees.SiteTrees.{tree_of}
use Rattle.isle_blocks.specs.Trees.View.{calls_at, read_or, rules_of}
use Rattle.isle_blocks.proofs.Trees.Effects.{part_effects, some_effects}
use Rattle.isle_blocks.proofs.Trees.Promises.AllowedAnswers.{HasAllowed, fine, is_fine}
use Rattle.isle_blocks.proofs.Trees.Standing.{tree_one}
use Rattle.isle_blocks.proofs.Trees.Used.{calls_have}

-- Behind a list stands the first of the rest.
pub get_split : {A : Type 0} (xs ys : List A) → slice_get (xs ++ ys) (length xs) ≡ slice_get ys 0
get_split [] ys = refl
get_split (x ∷ xs) ys = get_split xs ys

module _ (facts : TermFacts) (vars : ℕ → Site) (pure : (k : ℕ) → IsPure (vars k)) (all : List Step) where
  -- a call of one of these steps, and sites of which each impure call is one
  abbrev Called : Site → Type 0
  Called t = IsCallOf facts vars all t

  abbrev HasCalled : Site → Type 0
  HasCalled s = ImpureCallsAre Called s

  -- so is what a call gives
  answer_has : (m b : Bool) (s : Site) → HasCalled s → HasCalled (answer_site m b s)
  answer_has true b s k =
      of_whole (λ (u : Site). IsImpureCall u → Called u) (iterator s) (λ i. absurd i)
      (λ u m. of_one (λ (z : Site). IsImpureCall z → Called z) s u k m)
  answer_has false true s k =
      of_whole (λ (u : Site). IsImpureCall u → Called u) (match_some s) (λ i. absurd i)
      (λ u m. of_one (λ (z : Site). IsImpureCall z → Called z) s u k m)
  answer_has false false s k = k

  -- The sites of the steps are such.
  pub steps_have : (steps before : List Step) → all ≡ before ++ steps → Causal before steps → EachSite HasCalled (map (step_site facts vars) steps)
  steps_have [] before split causal = tt
  steps_have (s ∷ steps) before split causal = (
    answer_has (facts.multi s.term) (facts.partial s.term) (call_of facts vars s)
        (of_whole (λ (u : Site). IsImpureCall u → Called u) (call_of facts vars s)
        (λ i. (length before, s, ap (λ (l : List Step). slice_get l (length before)) split ∙ get_split before (s ∷ steps), refl))
        (λ u m x k i.
        let (j, t, get, e) = words_steps facts vars pure before s.args (causal.0) u m x k i in
        (j, t, ap (λ (l : List Step). slice_get l j) split ∙ get_append before (s ∷ steps) j t get, e))),
    steps_have steps (before ++ s ∷ []) (split ∙ sym (append_assoc before (s ∷ []) steps)) (causal.1),
  )

module _ (name : Sym → List ℕ) (facts : TermFacts) (sources : List source.Rule) (rules : List TypedRule) (term : ℕ) (set : RulesOverSites)
    (h : IsRunnableSet name facts sources rules term set) (i : ℕ) (r : Rule) (at : slice_get set.rules i ≡ Some r) (p : ℕ)
    (m : IsMadeAt name facts sources rules term set.sites p r) where
  -- the entries of the set's sites
  abbrev rows : List Row
  rows = rows_of name set.sites

  -- the set as trees see it
  abbrev R : Rules Constraint Held
  R = rules_of name set

  -- the typed rule, what its variables stand for, and its impure calls
  abbrev rule : TypedRule
  rule = m.reached.rule

  abbrev vars : ℕ → Site
  vars = vars_of facts rule

  abbrev steps : List Step
  steps = steps_of facts rule.right

  -- sites of which each impure call is one of them
  abbrev Has : Site → Type 0
  Has s = ImpureCallsAre (IsCallOf facts vars steps) s

  vars_pure : (k : ℕ) → IsPure (vars k)
  vars_pure = (demands_are_pure facts rule (h.runnable.pure p rule m.reached.at m.reached.of_term)).1

  result_has : Has (result_of facts (facts.partial rule.root) rule)
  result_has =
      let causal = steps_are_causal facts rule.right in
      some_effects name facts sources rules term set h (IsCallOf facts vars steps) (facts.partial rule.root)
      (site_of facts vars (word_of facts rule.right)) (word_steps facts vars vars_pure steps (word_of facts rule.right) (causal.1))

  calls_have_own : EachSite Has (impure_of facts rule)
  calls_have_own = steps_have facts vars vars_pure steps steps [] refl ((steps_are_causal facts rule.right).0)

  right_has : (u : ℕ) → Elem u (rights R i) → (t : Site) × At rows t u × Has t
  right_has u n =
      let n' : Elem u (calls_at set.sites r.impure ++ r.result.0 ∷ []) =
      subst (λ (o : Option Rule). Elem u (read_or [] (λ (k : Rule). calls_at set.sites k.impure) o
      ++ read_or (length set.sites) (λ (k : Rule). k.result.0) o ∷ [])) at n in
      elim (elem_append u (calls_at set.sites r.impure) (r.result.0 ∷ []) n') [
        | inl k ↦ calls_have name facts sources rules term set h Has (part_of (λ (z : Site). IsImpureCall z → IsCallOf facts vars steps z)) r.impure
            (impure_of facts rule) m.effects calls_have_own u k
        | inr k ↦ elim k [
          | inl q ↦ (_, subst (λ (z : ℕ). At rows (result_of facts (facts.partial rule.root) rule) z) (sym q) m.value, result_has)
          | inr z ↦ absurd z
        ]
      ]

  -- Where the answers to the rule's impure calls are allowed, those to the calls of its right side's sites are.
  pub right_fine : (answers : List (Option Value)) → AreAllowed facts m.reached.rule answers → (x : ℕ)
      → IsPartOf (rules_of name set) (rights (rules_of name set) i) x
      → fine facts answers (tree_of name set.sites x) ≡ true
  right_fine answers ok x part =
      let (t, at_t, has) = part_effects name facts sources rules term set h (IsCallOf facts vars steps) (rights R i) right_has x part in
      let same = tree_one name set.sites h.is.table t x at_t in
      let allowed : HasAllowed facts answers t = λ f n us sub none.
      let (j, s, get, q) = has (constructor_call f us (suc n)) sub tt in
      let one : f ≡ s.term = cc in
      let here : n ≡ s.place = cc in
      let place = placed_at 0 steps j s (steps_placed facts rule.right) get in
      let zero_more : 0 + j ≡ j = omega arith in
      ap facts.partial one ∙ ok j s get (ap (slice_get answers) (sym zero_more ∙ sym place ∙ sym here) ∙ none) in
      ap (fine facts answers) same ∙ is_fine facts answers t allowed
