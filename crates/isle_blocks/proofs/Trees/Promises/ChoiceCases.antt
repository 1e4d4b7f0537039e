-- Worked case: (rule (t true) 1) and (rule (t false) 0). Their tree chooses as they do; with its two returns swapped it doesn't.
use Rattle.std.proofs.Common.{◌≡◌, ◌⊎◌, inl, inr, ℕ, zero, suc, Bool, true, false, List, [], ◌∷◌, length, Option, Some, None, refl, ap, sym, subst, arith}
use Rattle.std.specs.Prelude.{pos, if◌then◌else◌}
use Rattle.std.specs.Cmp.{nat_cmp_is}
use Rattle.std.specs.Ordering.{is_eq}
use Rattle.std.specs.declared.cmp.Ordering.{Ordering}
use Rattle.std.specs.declared.cmp.Ordering.TheVariants.{Greater}
use Rattle.isle_types.specs.declared.ids.Sym.{Sym}
use Rattle.isle_rules.specs.Shown.TermTables.{TermTables}
use Rattle.isle_meaning.specs.Answers.{Completion}
use Rattle.isle_meaning.specs.Facts.{TermFacts}
use Rattle.isle_meaning.specs.Held.{Held}
use Rattle.isle_meaning.specs.Values.{Values, bool_value, more_values, no_values}
use Rattle.isle_trees.specs.Builds.{Binds, Builds, HasNoTest, IsAtMost, key}
use Rattle.isle_trees.specs.Rules.{Elem, Rules, has, itself}
use Rattle.isle_trees.specs.Scopes.{Scope, nothing_known, inside, emit, IsAvailable, IsReady, Test, from_parts, on_match, on_equal, on_loop, counted, is_one}
use Rattle.isle_trees.specs.Tree.{done, «match», give, no_arm, arm}
use Rattle.isle_trees.specs.Walk.{chooses, goes, walk}
use Rattle.isle_blocks.specs.declared.binding.Binding.TheVariants as sites
use Rattle.isle_blocks.specs.declared.constraint.Constraint.{Constraint}
use Rattle.isle_blocks.specs.declared.constraint.Constraint.TheVariants as tests
use Rattle.isle_blocks.specs.declared.rule.Rule.{Rule}
use Rattle.isle_blocks.specs.DefinedSets.{AreDefined, facts_by, name_of, rules_by}
use Rattle.isle_blocks.specs.RuleSets.{RulesOverSites}
use Rattle.isle_blocks.specs.Trees.Choices.{CoversTerm, MayBothBe}
use Rattle.isle_blocks.specs.Trees.Premises.{IsRunnableSet}
use Rattle.isle_blocks.specs.Trees.Promises.{ChoosesAsRules, IsBuilt}
use Rattle.isle_blocks.specs.Trees.Shown.{BlockShown}
use Rattle.isle_blocks.specs.Trees.SiteTrees.{held_by}
use Rattle.isle_blocks.specs.Trees.View.{rules_of, test_at, want_or}
use Rattle.isle_blocks.proofs.Trees.Chosen.{rules_match, settles}
use Rattle.isle_blocks.proofs.Trees.Promised.{built_chooses}

-- the test of a truth value
abbrev is_bool : Bool → Constraint
is_bool value = tests.ConstBool value (record { 0 = 0 })

-- a rule that tests the argument for a truth value and has this site as its result
abbrev on : Bool → ℕ → Rule
on value result = record {
  id = record { 0 = 0 };
  pos = record { file = 0; offset = 0 };
  constraints = (record { 0 = 0 }, is_bool value) ∷ [];
  equals = [];
  iterators = [];
  prio = pos 0;
  name = None;
  impure = [];
  result = record { 0 = result };
}

-- over the argument, 1 and 0
abbrev two : RulesOverSites
two = record {
  rules = on true 1 ∷ on false 2 ∷ [];
  sites = sites.Argument (record { 0 = 0 }) ∷ sites.ConstInt (pos 1) (record { 0 = 1 }) ∷ sites.ConstInt (pos 0) (record { 0 = 1 }) ∷ [];
}

-- a match of the argument, whose arms return these rules
abbrev returns : (on_false on_true : ℕ) → BlockShown
returns on_false on_true = record {
  tree = «match» [] 0 (arm (is_bool false) [] (give [] on_false done) (arm (is_bool true) [] (give [] on_true done) no_arm)) done;
  returns = [];
}

-- an argument
abbrev truth : Bool → Values
truth value = more_values (bool_value value) no_values

module _ (name : Sym → List ℕ) where
  -- the set as trees see it
  abbrev R : Rules Constraint Held
  R = rules_of name two

  -- no rule takes a value of a multi call
  no_loop : (o : Option Constraint) → is_one (want_or false o) ≡ false
  no_loop None = refl
  no_loop (Some c) = refl

  -- no rule tests another site
  other_test : (s : ℕ) (value : Bool) (result : ℕ) → test_at (suc s) (on value result) ≡ None
  other_test s value result =
      ap (λ (o : Ordering). if is_eq o then Some (is_bool value) else None) (sym (nat_cmp_is (suc s) 0 Greater (omega arith)))

  no_match : (s : ℕ) → length (counted R (on_match (suc s)) (0 ∷ 1 ∷ [])) ≡ 0
  no_match s = rw (other_test s true 1, other_test s false 2)

  no_loops : (s : ℕ) → length (counted R (on_loop s) (0 ∷ 1 ∷ [])) ≡ 0
  no_loops s = rw (no_loop (test_at s (on true 1)), no_loop (test_at s (on false 2)))

  argument_there : IsAvailable R nothing_known 0
  argument_there = from_parts 0 (λ p m. absurd m) (λ m e. cc)

  -- the test of the argument is the best
  best : (u : Test) → IsReady R nothing_known u → IsAtMost (key R (0 ∷ 1 ∷ []) nothing_known u) (key R (0 ∷ 1 ∷ []) nothing_known (on_match 0))
  best (on_match zero) ready = inr (refl, inr (refl, inr (refl, inr (refl, omega arith))))
  best (on_match (suc s)) ready = inl (omega (arith, no_match s))
  best (on_equal a b) ready = inl (omega arith)
  best (on_loop s) ready = inl (omega (arith, no_loops s))

  -- the argument is bound, and then its test passed
  abbrev bound : Scope Constraint
  bound = emit nothing_known 0

  abbrev passed : Bool → Scope Constraint
  passed value = inside R bound 0 (has (is_bool value))

  -- then no test is left
  none_left : (value : Bool) (i : ℕ) → (i ≡ 0) ⊎ (i ≡ 1) → HasNoTest R (i ∷ []) (passed value)
  none_left value i e (on_match zero) ready = let no = ready.1 in cc
  none_left value i (inl e) (on_match (suc s)) ready = rw (e, other_test s true 1)
  none_left value i (inr e) (on_match (suc s)) ready = rw (e, other_test s false 2)
  none_left value i (inl e) (on_equal a b) ready = rw e
  none_left value i (inr e) (on_equal a b) ready = rw e
  none_left value i (inl e) (on_loop s) ready = rw (e, no_loop (test_at s (on true 1)))
  none_left value i (inr e) (on_loop s) ready = rw (e, no_loop (test_at s (on false 2)))

  -- the argument is there, and not written
  binds_argument : Binds R nothing_known (0 ∷ []) [] bound
  binds_argument = record {
    all = 0 ∷ [];
    order = (refl, (λ p m. absurd m), tt);
    only = λ x m. itself x m;
    ending = refl;
    bound = λ x m. elim m [ inl e ↦ rw e refl | inr z ↦ absurd z ];
    written = refl;
  }

  nothing_more : (value : Bool) → Binds R (passed value) [] [] (passed value)
  nothing_more value = record {
    all = [];
    order = tt;
    only = λ x m. absurd m;
    ending = refl;
    bound = λ x m. absurd m;
    written = refl;
  }

  -- a rule alone returns its result
  first_returns : Builds R (0 ∷ []) (passed true) (give [] 0 done)
  first_returns = (
    none_left true 0 (inl refl),
    (
      (inl refl, λ j m. elim m [ inl e ↦ inr (rw e refl, omega arith) | inr z ↦ absurd z ]),
      (emit (passed true) 1, inr (refl, ([], [], passed true, nothing_more true, (refl, refl), refl)), refl),
    ),
  )

  second_returns : Builds R (1 ∷ []) (passed false) (give [] 1 done)
  second_returns = (
    none_left false 1 (inr refl),
    (
      (inl refl, λ j m. elim m [ inl e ↦ inr (rw e refl, omega arith) | inr z ↦ absurd z ]),
      (emit (passed false) 2, inr (refl, ([], [], passed false, nothing_more false, (refl, refl), refl)), refl),
    ),
  )

  wanted : (c d : Constraint) → Some (has c) ≡ Some (has d) → c ≡ d
  wanted c d e = cc

  -- false is the least test
  least_of_both : (i : ℕ) (d : Constraint) → Elem i (0 ∷ 1 ∷ []) → R.at i 0 ≡ Some (has d) → R.tests.at_most (is_bool false) d ≡ true
  least_of_both i d (inl e) wants =
      let is = wanted (is_bool true) d (subst (λ (k : ℕ). R.at k 0 ≡ Some (has d)) e wants) in
      subst (λ (x : Constraint). R.tests.at_most (is_bool false) x ≡ true) is refl
  least_of_both i d (inr (inl e)) wants =
      let is = wanted (is_bool false) d (subst (λ (k : ℕ). R.at k 0 ≡ Some (has d)) e wants) in
      subst (λ (x : Constraint). R.tests.at_most (is_bool false) x ≡ true) is refl
  least_of_both i d (inr (inr z)) wants = absurd z

  least_of_one : (i : ℕ) (d : Constraint) → Elem i (0 ∷ []) → R.at i 0 ≡ Some (has d) → R.tests.at_most (is_bool true) d ≡ true
  least_of_one i d (inl e) wants =
      let is = wanted (is_bool true) d (subst (λ (k : ℕ). R.at k 0 ≡ Some (has d)) e wants) in
      subst (λ (x : Constraint). R.tests.at_most (is_bool true) x ≡ true) is refl
  least_of_one i d (inr z) wants = absurd z

  -- the rules build the tree whose arms return them
  built : Builds R (0 ∷ 1 ∷ []) nothing_known (returns 1 0).tree
  built = (
    record { ready = (argument_there, refl); useful = omega arith; greatest = best },
    (
      bound,
      binds_argument,
      (
        ((1, inr (inl refl), refl), least_of_both),
        refl,
        second_returns,
        (((0, inl refl, refl), least_of_one), refl, first_returns, refl),
      ),
      refl,
    ),
  )

right_is_built : IsBuilt two (returns 1 0)
right_is_built = built

right_chooses : ChoosesAsRules two (returns 1 0)
right_chooses = built_chooses two (returns 1 0) right_is_built

-- which rule each tree returns
chosen_on_true : (name : Sym → List ℕ) (facts : TermFacts) (c : Completion)
    → walk (rules_of name two) (held_by name two.sites facts c (truth true) []) (returns 1 0).tree ≡ chooses 0 goes []
chosen_on_true name facts c = refl

chosen_on_false : (name : Sym → List ℕ) (facts : TermFacts) (c : Completion)
    → walk (rules_of name two) (held_by name two.sites facts c (truth false) []) (returns 1 0).tree ≡ chooses 1 goes []
chosen_on_false name facts c = refl

swapped_on_true : (name : Sym → List ℕ) (facts : TermFacts) (c : Completion)
    → walk (rules_of name two) (held_by name two.sites facts c (truth true) []) (returns 0 1).tree ≡ chooses 1 goes []
swapped_on_true name facts c = refl

-- the rules do not build the tree with the swapped returns
swapped_is_not_built : IsBuilt two (returns 0 1) → ⊥
swapped_is_not_built is =
    let (best, (after, binds, arms, next)) = is (λ s. []) in
    elim arms.2.1.0.0 [ inl e ↦ cc | inr z ↦ absurd z ]

-- Whatever definitions these are the rules of, the second doesn't match on true.
module _ (env : TermTables) (d : AreDefined env) (term : ℕ)
    (h : IsRunnableSet (name_of env d) (facts_by env d) env.rules (rules_by env d) term two) (c e : Completion)
    (both : MayBothBe (facts_by env d) c e)
    (takes : 1 ≡ length h.runnable.types) (covers : CoversTerm (facts_by env d) e (truth true) (rules_by env d) term) where
  swapped_is_wrong : ChoosesAsRules two (returns 0 1) → ⊥
  swapped_is_wrong promised =
      let (place, rule, at, chosen) = promised env d term h c e (truth true) both takes covers in
      let settled = settles (name_of env d) (facts_by env d) env.rules (rules_by env d) term two h e
      (truth true) both.second takes place rule chosen.is
      (covers place rule chosen.is) in
      let matches = (rules_match (name_of env d) (facts_by env d) env.rules (rules_by env d) term two h e
      (truth true) 1 place rule at chosen.is.listed
      settled).1 chosen.matches in
      let passes = matches.wants 0 (has (is_bool false)) refl in
      cc
