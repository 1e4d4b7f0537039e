-- Worked cases: what trees of one rule read, bind, ask, call and answer, and how many steps their walks reach.
use Rattle.std.proofs.Common.{◌≡◌, ◌≤◌, ◌+◌, ◌==◌, inl, inr, ℕ, Bool, true, false, List, [], ◌∷◌, Option, Some, None, refl, subst, arith}
use Rattle.std.specs.Prelude.{pos, if◌then◌else◌}
use Rattle.isle_types.specs.declared.ids.Sym.{Sym}
use Rattle.isle_rules.specs.Values.{ValueTree, bool_tree, int_tree, big_tree, const_tree}
use Rattle.isle_rules.specs.Values.{opaque_tree, data_tree}
use Rattle.isle_meaning.specs.Answers.{Completion}
use Rattle.isle_meaning.specs.Facts.{TermFacts, declared_shape}
use Rattle.isle_meaning.specs.Got.{gives}
use Rattle.isle_meaning.specs.GroundValues.{value_of}
use Rattle.isle_meaning.specs.Held.{held_value}
use Rattle.isle_meaning.specs.Values.{Value, Values, bool_value, int_value, more_values, no_values}
use Rattle.isle_meaning.specs.ValueTypes.{IsOfType, ValueFacts, truth_kind}
use Rattle.isle_meaning.specs.Worlds.{CheckedProgram}
use Rattle.isle_trees.specs.Counting.{after}
use Rattle.isle_trees.specs.Reads.{IsClosed, IsReadable, computed, is_bound}
use Rattle.isle_trees.specs.Rules.{Asked, by_demand, by_class, by_part, by_right, has, passes_got}
use Rattle.isle_trees.specs.Tree.{Steps, done, «match», equal, give, no_arm, arm}
use Rattle.isle_trees.specs.Walk.{breaks, chooses, ends, goes, opens, walk}
use Rattle.isle_blocks.specs.declared.binding.Binding.{Binding}
use Rattle.isle_blocks.specs.declared.binding.Binding.TheVariants as sites
use Rattle.isle_blocks.specs.declared.constraint.Constraint.{Constraint}
use Rattle.isle_blocks.specs.declared.constraint.Constraint.TheVariants as tests
use Rattle.isle_blocks.specs.declared.ids.BindingId.{BindingId}
use Rattle.isle_blocks.specs.declared.rule.Rule.{Rule}
use Rattle.isle_blocks.specs.RuleSets.{RulesOverSites}
use Rattle.isle_blocks.specs.Trees.Promises.{BindsWhatIsAsked, IsShort}
use Rattle.isle_blocks.specs.Trees.ReadPromises.{BindsFields}
use Rattle.isle_blocks.specs.Trees.RightPromises.{AnswersWith}
use Rattle.isle_blocks.specs.Trees.Shown.{BlockShown}
use Rattle.isle_blocks.specs.Trees.SiteTrees.{held_by}
use Rattle.isle_blocks.specs.Trees.TypedCalls.{TakesItsTypes}
use Rattle.isle_blocks.specs.Trees.View.{rules_of}

-- (rule (t x) (first x)) of a term that never fails, where `first` may fail: an argument, the call, its content
abbrev call : Binding
call = sites.Constructor (record { 0 = 1 }) (record { 0 = 0 } ∷ []) 1

abbrev one_rule : Rule
one_rule = record {
  id = record { 0 = 0 };
  pos = record { file = 0; offset = 0 };
  constraints = [];
  equals = [];
  iterators = [];
  prio = pos 0;
  name = None;
  impure = record { 0 = 2 } ∷ [];
  result = record { 0 = 2 };
}

abbrev opened : RulesOverSites
opened = record { rules = one_rule ∷ []; sites = sites.Argument (record { 0 = 0 }) ∷ (call ∷ (sites.MatchSome (record { 0 = 1 }) ∷ [])) }

-- its tree, and trees that test the call before: with the content, and without
abbrev returned : Steps Constraint
returned = give (1 ∷ (2 ∷ [])) 0 done

abbrev tested : List (Option ℕ) → Steps Constraint
tested bindings = «match» (1 ∷ []) 1 (arm tests.Some bindings (give [] 0 done) no_arm) done

argument_there : (name : Sym → List ℕ) (env : ℕ → Bool) → IsReadable (rules_of name opened) env 0
argument_there name env = computed 0 refl (λ p m. absurd m)

-- the return binds the call after its argument, which is not bound, and the content after the call
return_reads : (name : Sym → List ℕ) → IsClosed (rules_of name opened) (λ s. false) returned
return_reads name = (
  (
    inl refl,
    (λ p m. elim m [ inl e ↦ rw e (argument_there name _) | inr z ↦ absurd z ]),
    (inl refl, (λ p m. elim m [ inl e ↦ rw e (is_bound 1 refl) | inr z ↦ absurd z ]), tt),
  ),
  (is_bound 2 refl, tt),
)

-- one that binds nothing reads what is not there
unbound_result : (name : Sym → List ℕ) → IsReadable (rules_of name opened) (λ s. false) 2 → ⊥
unbound_result name (IsReadable.is_bound s e) = cc
unbound_result name (IsReadable.computed s n parts) = cc

nothing_bound : (name : Sym → List ℕ) → IsClosed (rules_of name opened) (λ s. false) (give [] 0 done) → ⊥
nothing_bound name c = unbound_result name (c.1.0)

-- the arm of the test that makes the content binds it
arm_binds : BindsFields opened.sites (tested (Some 2 ∷ []))
arm_binds = ((refl, tt, tt), tt)

arm_must : BindsFields opened.sites (tested (None ∷ [])) → ⊥
arm_must b = let e = b.0.0 in cc

-- `first` may fail, and takes a truth value
abbrev facts : TermFacts
facts = record {
  shape = λ t. declared_shape;
  pure = λ t. false;
  partial = λ t. t == 1;
  multi = λ t. false;
  infallible = λ t. false;
  inputs = λ t. 0 ∷ [];
  type_of = λ t. 0;
  variant_fields = λ ty k. [];
  struct_fields = λ ty. [];
  constant_type = λ n. 0;
}

abbrev truths : ValueFacts
truths = record { kind = λ ty. truth_kind; constant = λ n. None; data_named = λ n. None; shape_named = λ n. None }

abbrev program : CheckedProgram
program = record { terms = facts; values = truths; has_rules = λ t. false; rules = [] }

-- on one it is typed
takes_truth : TakesItsTypes program (λ s. gives (held_value (bool_value true))) call
takes_truth = ((λ h e. (bool_value true, cc, record { tree = bool_tree true; typed = refl; stands = refl })), tt)

no_number : (tree : ValueTree) → IsOfType truths tree 0 → value_of truths tree ≡ int_value (pos 5) → ⊥
no_number (bool_tree b) t e = cc
no_number (int_tree n) t e = t
no_number (big_tree n) t e = let k = t.0 in cc
no_number (const_tree n) t e = cc
no_number (opaque_tree n) t e = cc
no_number (data_tree n fields) t e = let k = t.1 in cc

-- on a number it is not
takes_no_number : TakesItsTypes program (λ s. gives (held_value (int_value (pos 5)))) call → ⊥
takes_no_number t =
    let (v, e, of) = t.0 (held_value (int_value (pos 5))) refl in
    no_number of.tree of.typed (let s = of.stands in let same : int_value (pos 5) ≡ v = cc in cc)

-- While `first` is not answered the return is open at it; answered none it breaks, having called it; answered a value it goes on to that.
abbrev truth : Values
truth = more_values (bool_value true) no_values

open_return : (name : Sym → List ℕ) (c : Completion)
    → walk (rules_of name opened) (held_by name opened.sites facts c truth []) returned ≡ chooses 0 (opens 1) (1 ∷ [])
open_return name c = refl

broken_return : (name : Sym → List ℕ) (c : Completion)
    → walk (rules_of name opened) (held_by name opened.sites facts c truth (None ∷ [])) returned ≡ chooses 0 breaks (1 ∷ [])
broken_return name c = refl

whole_return : (name : Sym → List ℕ) (c : Completion) (v : Value)
    → (walk (rules_of name opened) (held_by name opened.sites facts c truth (Some v ∷ [])) returned ≡ chooses 0 goes (1 ∷ []))
    × AnswersWith false (held_by name opened.sites facts c truth (Some v ∷ []) 2) goes (Some v)
whole_return name c v = (refl, (v, refl, refl))

abbrev id : ℕ → BindingId
id n = record { 0 = n }

abbrev block : Steps Constraint → BlockShown
block tree = record { tree = tree; returns = [] }

-- (rule (t (first x)) x): the argument, the call of `first` on it, which is tested, and its content
abbrev called : RulesOverSites
called = record {
  rules = record one_rule { constraints = (id 1, tests.Some) ∷ []; impure = [] } ∷ [];
  sites = sites.Argument (record { 0 = 0 }) ∷ sites.Extractor (record { 0 = 1 }) (id 0) ∷ sites.MatchSome (id 1) ∷ [];
}

-- where a rule tests the call, a tree may bind it before the test
asked_call : BindsWhatIsAsked called (block (tested (Some 2 ∷ [])))
asked_call name = (
  (λ x m. elim m [ inl e ↦ (0, inl refl, rw e (by_demand 1 (has tests.Some) refl)) | inr z ↦ absurd z ]),
  ((((λ x m. absurd m), tt), tt), tt),
)

-- where none does, no test asks anything, and no tree binds the call before one
nothing_asked : (name : Sym → List ℕ) (s : ℕ) → Asked (rules_of name opened) 0 s → ⊥
nothing_asked name s (by_demand t w e) = cc
nothing_asked name s (by_class t b e) = cc
nothing_asked name s (by_part t u asked m) = nothing_asked name t asked

unasked_call : BindsWhatIsAsked opened (block (tested (Some 2 ∷ []))) → ⊥
unasked_call binds =
    let (i, left, asked) = (binds (λ s. [])).0 1 (inl refl) in
    elim left [ inl e ↦ nothing_asked (λ s. []) 1 (subst (λ (k : ℕ). Asked (rules_of (λ s. []) opened) k 1) e asked) | inr z ↦ absurd z ]

-- but its return may bind it
returned_call : BindsWhatIsAsked opened (block returned)
returned_call name = (
  (λ x m. elim m [ inl e ↦ by_right x (inl e) | inr n ↦ elim n [ inl e ↦ by_right x (inr (inl e)) | inr z ↦ absurd z ] ]),
  tt,
)

-- (rule (t 5) 7): the argument, which is tested, and 7
abbrev five : Constraint
five = tests.ConstInt (pos 5) (record { 0 = 1 })

abbrev on_five : RulesOverSites
on_five = record {
  rules = record one_rule { constraints = (id 0, five) ∷ []; impure = []; result = id 1 } ∷ [];
  sites = sites.Argument (record { 0 = 0 }) ∷ sites.ConstInt (pos 7) (record { 0 = 1 }) ∷ [];
}

-- its tree, and one that compares the argument with itself before the test
abbrev five_tested : Steps Constraint
five_tested = «match» [] 0 (arm five [] (give [] 0 done) no_arm) done

abbrev compared : Steps Constraint
compared = equal [] 0 0 five_tested done

-- the walk of its tree reaches the two steps that one test and one rule allow, or one
one_or_two : (passed : Bool) → 1 + ((if passed then 1 else 0) + after (if passed then chooses 0 goes [] else ends) 0) ≤ 2
one_or_two true = omega arith
one_or_two false = omega arith

test_is_short : IsShort on_five (block five_tested)
test_is_short name held = one_or_two (passes_got (rules_of name on_five) five (held 0))

-- on 5 the other's reaches a third
compared_is_long : IsShort on_five (block compared) → ⊥
compared_is_long short = let three = short (λ s. []) (λ s. gives (held_value (int_value (pos 5)))) in omega (arith, three)
