-- Worked case: the tree of (rule (f 5) 7), which is its set's in every way that is promised.
use Rattle.std.proofs.Common.{◌≡◌, ◌≤◌, ◌+◌, inl, inr, ℕ, zero, suc, Bool, true, false, List, [], ◌∷◌, length, Option, Some, None, refl, ap, sym, subst, arith}
use Rattle.std.specs.Prelude.{pos, if◌then◌else◌}
use Rattle.std.specs.Cmp.{nat_cmp_is}
use Rattle.std.specs.Option.{option_map_or}
use Rattle.std.specs.Ordering.{is_eq}
use Rattle.std.specs.declared.cmp.Ordering.{Ordering}
use Rattle.std.specs.declared.cmp.Ordering.TheVariants.{Greater}
use Rattle.isle_types.specs.declared.ids.Sym.{Sym}
use Rattle.isle_meaning.specs.Held.{Held}
use Rattle.isle_trees.specs.Builds.{Binds, Builds, HasNoTest, IsAtMost, key}
use Rattle.isle_trees.specs.Counting.{after}
use Rattle.isle_trees.specs.Reads.{IsReadable, computed}
use Rattle.isle_trees.specs.Rules.{Elem, Rules, has, itself, passes_got}
use Rattle.isle_trees.specs.Scopes.{Scope, nothing_known, inside, emit, IsAvailable, IsReady, Test, from_parts, on_match, on_equal, on_loop, counted, is_one}
use Rattle.isle_trees.specs.Tree.{Steps, done, «match», give, no_arm, arm}
use Rattle.isle_trees.specs.Walk.{chooses, ends, goes}
use Rattle.isle_blocks.specs.declared.binding.Binding.TheVariants as sites
use Rattle.isle_blocks.specs.declared.constraint.Constraint.{Constraint}
use Rattle.isle_blocks.specs.declared.constraint.Constraint.TheVariants as tests
use Rattle.isle_blocks.specs.declared.rule.Rule.{Rule}
use Rattle.isle_blocks.specs.RuleSets.{RulesOverSites}
use Rattle.isle_blocks.specs.Trees.Promises.{IsReturnOf, ReturnsItsRules, BindsWhatIsAsked, HasArmsInOrder, IsShort}
use Rattle.isle_blocks.specs.Trees.ReadPromises.{BindsItsFields, ReadsWhatIsBound}
use Rattle.isle_blocks.specs.Trees.Shown.{BlockShown}
use Rattle.isle_blocks.specs.Trees.View.{rules_of, test_at, want_or}
use Rattle.isle_program.specs.Trees.{IsSetTree}

-- the test of the argument
abbrev pub five : Constraint
five = tests.ConstInt (pos 5) (record { 0 = 1 })

-- the rule, which stands at the fifth byte of its file
abbrev pub rule : Rule
rule = record {
  id = record { 0 = 3 };
  pos = record { file = 0; offset = 4 };
  constraints = (record { 0 = 0 }, five) ∷ [];
  equals = [];
  iterators = [];
  prio = pos 0;
  name = None;
  impure = [];
  result = record { 0 = 1 };
}

-- its set: the argument, and 7
abbrev pub set : RulesOverSites
set = record { rules = rule ∷ []; sites = sites.Argument (record { 0 = 0 }) ∷ sites.ConstInt (pos 7) (record { 0 = 1 }) ∷ [] }

-- its tree: the test, and the return
abbrev pub tree : Steps Constraint
tree = «match» [] 0 (arm five [] (give [] 0 done) no_arm) done

abbrev pub block : BlockShown
block = record { tree = tree; returns = record { rule = 0; pos = record { file = 0; offset = 4 }; result = 1 } ∷ [] }

module _ (name : Sym → List ℕ) where
  -- the set as trees see it
  abbrev R : Rules Constraint Held
  R = rules_of name set

  -- no rule takes a value of a multi call, nor tests another site
  no_loop : (o : Option Constraint) → is_one (want_or false o) ≡ false
  no_loop None = refl
  no_loop (Some c) = refl

  other_test : (s : ℕ) → test_at (suc s) rule ≡ None
  other_test s = ap (λ (o : Ordering). if is_eq o then Some five else None) (sym (nat_cmp_is (suc s) 0 Greater (omega arith)))

  no_match : (s : ℕ) → length (counted R (on_match (suc s)) (0 ∷ [])) ≡ 0
  no_match s = rw (other_test s)

  no_loops : (s : ℕ) → length (counted R (on_loop s) (0 ∷ [])) ≡ 0
  no_loops s = rw (no_loop (test_at s rule))

  -- so the test of the argument is the best
  argument_there : IsAvailable R nothing_known 0
  argument_there = from_parts 0 (λ p m. absurd m) (λ m e. cc)

  best : (u : Test) → IsReady R nothing_known u → IsAtMost (key R (0 ∷ []) nothing_known u) (key R (0 ∷ []) nothing_known (on_match 0))
  best (on_match zero) ready = inr (refl, inr (refl, inr (refl, inr (refl, omega arith))))
  best (on_match (suc s)) ready = inl (omega (arith, no_match s))
  best (on_equal a b) ready = inl (omega arith)
  best (on_loop s) ready = inl (omega (arith, no_loops s))

  -- the argument is bound, and then its test passed
  abbrev bound : Scope Constraint
  bound = emit nothing_known 0

  abbrev passed : Scope Constraint
  passed = inside R bound 0 (has five)

  -- then no test is left
  none_left : HasNoTest R (0 ∷ []) passed
  none_left (on_match zero) ready = let no = ready.1 in cc
  none_left (on_match (suc s)) ready = rw (other_test s)
  none_left (on_equal a b) ready = refl
  none_left (on_loop s) ready = rw (no_loop (test_at s rule))

  -- the argument is there, and not written
  binds_argument : Binds R nothing_known (0 ∷ []) [] bound
  binds_argument = record {
    all = 0 ∷ [];
    order = (refl, (λ p m. absurd m), tt);
    only = λ x m. itself x m;
    ending = refl;
    bound = λ x m. elim m [ inl e ↦ rw e refl | inr z ↦ absurd z ];
    written = refl;
  }

  nothing_more : Binds R passed [] [] passed
  nothing_more = record { all = []; order = tt; only = λ x m. absurd m; ending = refl; bound = λ x m. absurd m; written = refl }

  returns_it : Builds R (0 ∷ []) passed (give [] 0 done)
  returns_it = (
    none_left,
    (
      (inl refl, λ j m. elim m [ inl e ↦ inr (rw e refl, omega arith) | inr z ↦ absurd z ]),
      (emit passed 1, inr (refl, ([], [], passed, nothing_more, (refl, refl), refl)), refl),
    ),
  )

  wanted : (d : Constraint) → Some (has five) ≡ Some (has d) → five ≡ d
  wanted d e = cc

  least : (i : ℕ) (d : Constraint) → Elem i (0 ∷ []) → R.at i 0 ≡ Some (has d) → R.tests.at_most five d ≡ true
  least i d (inl e) wants =
      let is = wanted d (subst (λ (k : ℕ). R.at k 0 ≡ Some (has d)) e wants) in
      subst (λ (x : Constraint). R.tests.at_most five x ≡ true) is refl
  least i d (inr z) wants = absurd z

  -- the rule builds the tree
  built : Builds R (0 ∷ []) nothing_known tree
  built = (
    record { ready = (argument_there, refl); useful = omega arith; greatest = best },
    (bound, binds_argument, (((0, inl refl, refl), least), refl, returns_it, refl), refl),
  )

  -- what the tree reads is there
  argument_read : (env : ℕ → Bool) → IsReadable R env 0
  argument_read env = computed 0 refl (λ p m. absurd m)

  result_read : (env : ℕ → Bool) → IsReadable R env 1
  result_read env = computed 1 refl (λ p m. absurd m)

-- what its walks reach
one_or_two : (passed : Bool) → 1 + ((if passed then 1 else 0) + after (if passed then chooses 0 goes [] else ends) 0) ≤ 2
one_or_two true = omega arith
one_or_two false = omega arith

is_returned : ReturnsItsRules set block
is_returned r (zero, within, is) = subst (IsReturnOf set) is (rule, refl, refl, refl)
is_returned r (suc k, within, is) = absurd (omega arith)

-- The tree is the set's.
pub is_set_tree : IsSetTree set block
is_set_tree = record { builds = built; returns = is_returned }

-- it binds nothing but what the rule asks
pub asks_what_is_asked : BindsWhatIsAsked set block
asks_what_is_asked name = ((λ x m. absurd m), ((((λ x m. absurd m), tt), tt), tt))

-- what it reads is bound
pub reads_what_is_bound : ReadsWhatIsBound set block
reads_what_is_bound name = (tt, (argument_read name _, (((λ x m. absurd m), ((tt, (result_read name _, tt)), tt)), tt)))

-- its test binds no fields
pub binds_no_fields : BindsItsFields set block
binds_no_fields = ((refl, tt, tt), tt)

-- its one arm is in order
pub has_one_arm : HasArmsInOrder set block
has_one_arm name = ((tt, (tt, tt)), tt)

-- its walks reach one step or two
pub is_short : IsShort set block
is_short name held = one_or_two (passes_got (rules_of name set) five (held 0))

-- one whose return gives the argument isn't
wrong_result : IsSetTree set (record { tree = tree; returns = record { rule = 0; pos = record { file = 0; offset = 4 }; result = 0 } ∷ [] }) → ⊥
wrong_result is =
    let (its, at, place, result) = is.returns (record { rule = 0; pos = record { file = 0; offset = 4 }; result = 0 }) (0, omega arith, refl) in
    let number = ap (λ (o : Option Rule). option_map_or (λ (r : Rule). r.result.0) o 0) at in
    omega (arith, number, result)
