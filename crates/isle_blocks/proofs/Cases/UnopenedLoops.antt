-- Worked case: (rule (m x) (if-let _ (let ((y ty (each (part)))) 5)) 7), where `each` is `multi` and `part` partial. Nothing tests that `part`
-- has a value, so the loop is never available, and the tree returns the rule once. Where `part` gives none the bag has nothing.
use Rattle.std.proofs.Common.{◌≡◌, inl, inr, ℕ, zero, suc, pos, ◌==◌, not, Bool, true, false, List, [], ◌∷◌, length, Some, None, slice_get, refl, ap, sym}
use Rattle.std.proofs.Common.{subst, arith}
use Rattle.std.proofs.lemmas.Option.{same_Some, none-some}
use Rattle.isle_types.specs.declared.ids.Sym.{Sym}
use Rattle.isle_rules.specs.TypedRules.{TypedRule, typed_bind, typed_wildcard, no_typed, more_typed, built_int, built_term, built_let, no_built}
use Rattle.isle_rules.specs.TypedRules.{more_built, no_typed_bindings, more_typed_bindings}
use Rattle.isle_meaning.specs.Got.{fails, gives}
use Rattle.isle_meaning.specs.Values.{Value, Values, int_value, no_values, more_values}
use Rattle.isle_meaning.specs.Facts.{TermFacts, declared_shape}
use Rattle.isle_meaning.specs.Answers.{Completion}
use Rattle.isle_meaning.specs.Held.{Held, held_answers}
use Rattle.isle_meaning.specs.Sites.{Site, constructor_call, match_some, no_sites, more_sites}
use Rattle.isle_blocks.specs.declared.ids.BindingId.{BindingId}
use Rattle.isle_blocks.specs.declared.binding.Binding.TheVariants as sites
use Rattle.isle_blocks.specs.declared.constraint.Constraint.{Constraint}
use Rattle.isle_blocks.specs.declared.constraint.Constraint.TheVariants as tests
use Rattle.isle_blocks.specs.declared.rule.Rule.{Rule}
use Rattle.isle_blocks.specs.RuleSets.{RulesOverSites}
use Rattle.isle_blocks.specs.Trees.Functions.{functions_model}
use Rattle.isle_blocks.specs.Trees.RuleBags.{Match, held_at, HasMultiCall, IsMatch, IsBag}
use Rattle.isle_blocks.specs.Trees.View.{has_loop, want_or, rules_of}
use Rattle.isle_blocks.proofs.Trees.Reading.{found_loop}
use Rattle.isle_trees.specs.Bag.{Picks, gave, walk_all}
use Rattle.isle_trees.specs.Builds.{Builds, HasNoTest}
use Rattle.isle_trees.specs.Rules.{has, Rules, Elem}
use Rattle.isle_trees.specs.Scopes.{IsAvailable, nothing_known, emit, is_test, has_test, counted, Test, on_match, on_equal, on_loop}
use Rattle.isle_trees.specs.Tree.{Steps, done, give}
use Rattle.isle_trees.proofs.Basics.{true_or, contains_elem}

-- term 0 is m, 1 is `each`, and 2 is `part`
abbrev facts : TermFacts
facts = record {
  shape = λ t. declared_shape;
  pure = λ t. true;
  partial = λ t. t == 2;
  multi = λ t. not (t == 2);
  infallible = λ t. true;
  inputs = λ t. 1 ∷ [];
  type_of = λ t. 1;
  variant_fields = λ ty k. [];
  struct_fields = λ ty. [];
  constant_type = λ n. 1;
}

-- an integer, alone
abbrev one : ℕ → Values
one n = more_values (int_value (pos n)) no_values

-- `part` gives none, and `each` three items of any value
abbrev answers : Completion
answers = record {
  construct = λ t vs. fails;
  extract = λ t v. fails;
  constructs = λ t vs. gives (one 4 ∷ one 4 ∷ one 9 ∷ []);
  extracts = λ t v. gives [];
  place = λ s. 0;
}

-- the rule
abbrev rule : TypedRule → TypedRule
rule base = record base {
  root = 0;
  args = more_typed (typed_bind 1 0 (typed_wildcard 1)) no_typed;
  iflets = record {
    pattern = typed_wildcard 1;
    value = built_let 1 (more_typed_bindings 1 1 (built_term 1 1 (more_built (built_term 1 2 no_built) no_built)) no_typed_bindings)
        (built_int 1 (pos 5));
  } ∷ [];
  right = built_int 1 (pos 7);
}

-- the call of `each` on the content of `part`
abbrev each : Site
each = constructor_call 1 (more_sites (match_some (constructor_call 2 no_sites zero)) no_sites) zero

module _ (base : TypedRule) (v : Value) where
  -- the rule has it
  used : HasMultiCall facts (rule base) each
  used = inl (inr (inr (inr (inr (inl refl)))))

  -- no other rule stands beside it
  the_rule : (k : ℕ) (r : TypedRule) → slice_get (rule base ∷ []) k ≡ Some r → rule base ≡ r
  the_rule zero r e = same_Some (rule base) r e
  the_rule (suc k) r e = absurd (none-some r e)

  -- no item is there
  none_there : (m : Match) → IsMatch facts answers (more_values v no_values) (rule base ∷ []) 0 m → ⊥
  none_there m is =
      let its = is.is in
      let same = the_rule m.rule is.rule its.listed in
      let (x, (l, vs, list, there, item)) = is.takes each (subst (λ (z : TypedRule). HasMultiCall facts z each) same used) in
      let list' : held_at facts answers (more_values v no_values) (rule base) m.way each ≡ gives (held_answers l) =
      subst (λ (z : TypedRule). held_at facts answers (more_values v no_values) z m.way each ≡ gives (held_answers l)) (sym same) list in cc

  -- The bag has nothing.
  is_bag : IsBag facts answers (more_values v no_values) (rule base ∷ []) 0 []
  is_bag = record {
    sound = λ m inside. absurd (contains_elem m [] inside);
    full = λ m is. absurd (none_there m is);
    once = λ i j d l within. absurd (omega arith);
  }

-- a site by its number
abbrev id : ℕ → BindingId
id n = record { 0 = n }

-- one value of a multi call is no test
no_want : (b : Bool) → is_test {C = Constraint} (want_or b None) ≡ false
no_want true = refl
no_want false = refl

module _ (name : Sym → List ℕ) (own : Rule) where
  -- the rule over its sites
  abbrev here : Rule
  here = record own { constraints = []; equals = []; iterators = id 3 ∷ []; impure = []; result = id 6 }

  -- the argument, `part` and its content, `each` and one item, 5 and 7
  abbrev set : RulesOverSites
  set = record {
    rules = here ∷ [];
    sites = sites.Argument (record { 0 = 0 }) ∷ sites.Constructor (record { 0 = 2 }) [] 0 ∷ sites.MatchSome (id 1)
        ∷ sites.Constructor (record { 0 = 1 }) (id 2 ∷ []) 0 ∷ sites.Iterator (id 3) ∷ sites.ConstInt (pos 5) (record { 0 = 1 })
        ∷ sites.ConstInt (pos 7) (record { 0 = 1 }) ∷ [];
  }

  -- the set as trees see it
  abbrev R : Rules Constraint Held
  R = rules_of name set

  -- the content of `part` is never available
  unopened : (s : ℕ) → IsAvailable R nothing_known s → s ≡ 2 → ⊥
  unopened _ (IsAvailable.from_parts s parts tested) e =
      let none : None ≡ Some (has tests.Some) =
      tested (record { site = 1; want = has tests.Some }) (ap R.made e) in cc

  -- so `each` isn't
  unavailable : (s : ℕ) → IsAvailable R nothing_known s → s ≡ 3 → ⊥
  unavailable _ (IsAvailable.from_parts s parts tested) e =
      unopened 2 (parts 2 (subst (λ (z : ℕ). Elem 2 (R.parts z)) (sym e) (inl refl))) refl

  -- what the rule doesn't have counts no rule
  none_counted : (u : Test) → has_test R 0 u ≡ false → length (counted R u (0 ∷ [])) ≡ 0
  none_counted u e = rw e refl

  -- no test is left
  no_test : HasNoTest R (0 ∷ []) nothing_known
  no_test (on_match s) ready = none_counted (on_match s) (no_want (has_loop s here))
  no_test (on_equal a b) ready = none_counted (on_equal a b) refl
  no_test (on_loop s) ready = elim (true_or (has_loop s here)) [
    | inl e ↦
        let found = contains_elem (id s) (id 3 ∷ []) (found_loop here s e) in
        absurd (elim found [ inl q ↦ unavailable s (ready.0) (ap (λ (z : BindingId). z.0) q) | inr z ↦ z ])
    | inr e ↦ none_counted (on_loop s) (rw e refl)
  ]

  -- the rule returns
  abbrev tree : Steps Constraint
  tree = give [] 0 done

  -- the tree is built
  is_built : Builds R (0 ∷ []) nothing_known tree
  is_built = (
    no_test,
    (
      (inl refl, λ j m. elim m [ inl e ↦ inr (ap R.prio e, omega arith) | inr z ↦ absurd z ]),
      (
        emit nothing_known 6,
        inr (
          refl,
          (
            [],
            [],
            nothing_known,
            record { all = []; order = tt; only = λ x m. absurd m; ending = refl; bound = λ x m. absurd m; written = refl },
            (refl, refl),
            refl,
          ),
        ),
        refl,
      ),
    ),
  )

  -- its walk returns once
  walk_is : (v : Value) (start : Picks Held)
      → walk_all R (functions_model name set facts answers (more_values v no_values)) tree start ≡ gave 0 start ∷ []
  walk_is v start = refl
