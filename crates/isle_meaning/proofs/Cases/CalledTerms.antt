-- Worked cases: what calls of literal rules mean at a depth, which effects they make, and where chains of asking end.
use Rattle.std.proofs.Common.{arith, ◌≡◌, ◌≢◌, ℕ, zero, suc, ℤ, pos, List, [], ◌∷◌, inl, inr, Bool, true, false, refl, sym, ◌∙◌, ap, subst, Option, None, Some}
use Rattle.std.proofs.Common.{slice_get}
use Rattle.std.specs.Prelude.{if◌then◌else◌, ◌==◌, ◌≤ℤ◌, FitsSigned}
use Rattle.std.specs.Int.{w128}
use Rattle.std.proofs.lemmas.Int.{fits_signed_from_abs}
use Rattle.std.proofs.lemmas.Option.{none-some, same_Some}
use Rattle.isle_rules.specs.Values.{int_tree, no_trees, more_trees}
use Rattle.isle_rules.specs.TypedRules.{TypedPattern, typed_bind, typed_int, typed_wildcard, no_typed, more_typed, TypedExpr}
use Rattle.isle_rules.specs.TypedRules.{built_int, built_var, built_term, built_let, no_built, more_built, no_typed_bindings, more_typed_bindings, TypedIfLet, TypedRule}
use Rattle.isle_meaning.specs.Facts.{TermFacts, variant_shape, declared_shape}
use Rattle.isle_meaning.specs.Got.{Got, unknown, fails, gives}
use Rattle.isle_meaning.specs.Values.{Value, Values, int_value, no_values, more_values, more, made}
use Rattle.isle_meaning.specs.ValueTypes.{ValueFacts, primitive_kind}
use Rattle.isle_meaning.specs.Answers.{Completion}
use Rattle.isle_meaning.specs.GroundValues.{AreValuesOf}
use Rattle.isle_meaning.specs.Held.{constructed}
use Rattle.isle_meaning.specs.Matching.{word_value, MatchesWith, Matches}
use Rattle.isle_meaning.specs.RightSides.{on_got, IsFailure, IsValue, RightOf}
use Rattle.isle_meaning.specs.Scopes.{Covers}
use Rattle.isle_meaning.specs.Words.{word_of}
use Rattle.isle_meaning.specs.Worlds.{CheckedProgram, Answers, Event}
use Rattle.isle_meaning.specs.Calls.{Agrees, CoversAll, IsEffect, Makes, Means}
use Rattle.isle_meaning.specs.Sites.{argument, constructor_call, no_sites, more_sites}
use Rattle.isle_meaning.specs.Asking.{asks_value, no_link, to_choose, AsksToChoose, plain_links, EndsAt, stuck, spent}

-- declared terms of one argument of the one type, of which these are pure and these may fail
abbrev terms_of : (pure partial : ℕ → Bool) → TermFacts
terms_of pure partial = record {
  shape = λ t. if t == 9 then variant_shape 0 else declared_shape;
  pure = pure;
  partial = partial;
  multi = λ t. false;
  infallible = λ t. false;
  inputs = λ t. 1 ∷ [];
  type_of = λ t. 1;
  variant_fields = λ ty place. 1 ∷ 1 ∷ [];
  struct_fields = λ ty. [];
  constant_type = λ name. 0;
}

-- a primitive type
abbrev pub one_type : ValueFacts
one_type = record { kind = λ ty. primitive_kind; constant = λ name. None; data_named = λ name. None; shape_named = λ name. None }

-- a rule of a term of one argument
abbrev pub rule_of : ℕ → ℤ → TypedPattern → List TypedIfLet → TypedExpr → TypedRule
rule_of root priority arg iflets right = record {
  root = root;
  args = more_typed arg no_typed;
  iflets = iflets;
  right = right;
  variables = [];
  priority = priority;
  pos = record { file = 0; offset = 0 };
  name = None;
}

-- the variable, and a call on an expression
abbrev pub x : TypedPattern
x = typed_bind 1 0 (typed_wildcard 1)

abbrev its_value : TypedExpr
its_value = built_var 1 0

abbrev called : ℕ → TypedExpr → TypedExpr
called t e = built_term 1 t (more_built e no_built)

-- a number as a value, as arguments, and as the variable's value
abbrev pub number : ℕ → Value
number n = int_value (pos n)

abbrev pub on : ℕ → Values
on n = more_values (number n) no_values

abbrev each_is : ℕ → ℕ → Value
each_is n k = number n

-- a world that answers nothing
abbrev pub silent : Answers
silent = record { construct = λ t vs. None; extract = λ t v. None }

-- ---- (rule (g x) x) (rule (f x) (g x)), where g is 0 and f is 1

abbrev pub chain : CheckedProgram
chain = record {
  terms = terms_of (λ t. false) (λ t. false);
  values = one_type;
  has_rules = λ t. true;
  rules = rule_of 0 (pos 0) x [] its_value ∷ rule_of 1 (pos 0) x [] (called 0 its_value) ∷ [];
}

-- all its rules have one priority
chain_even : (i : ℕ) (rule : TypedRule) → slice_get chain.rules i ≡ Some rule → rule.priority ≤ℤ pos 0
chain_even zero rule at = subst (λ (r : TypedRule). r.priority ≤ℤ pos 0) (same_Some _ rule at) (omega arith)
chain_even (suc zero) rule at = subst (λ (r : TypedRule). r.priority ≤ℤ pos 0) (same_Some _ rule at) (omega arith)
chain_even (suc (suc i)) rule at = absurd (none-some rule at)

-- (g 4) is 4 at depth 1
inner : Means chain silent 1 0 (on 4) [] (Some (number 4))
inner = (
  refl,
  λ c agrees covers. inl (record {
    place = 0;
    chosen = rule_of 0 (pos 0) x [] its_value;
    at = record { listed = refl; of_term = refl };
    variables = each_is 4;
    matches = (((refl, tt), tt), tt);
    greatest = λ i other at m. chain_even i other at.listed;
    right = record { nothing = refl; same = refl };
  }),
)

-- (f 4) is 4 at depth 2
outer : Means chain silent 2 1 (on 4) [] (Some (number 4))
outer = (
  refl,
  λ c agrees covers. inl (record {
    place = 1;
    chosen = rule_of 1 (pos 0) x [] (called 0 its_value);
    at = record { listed = refl; of_term = refl };
    variables = each_is 4;
    matches = (((refl, tt), tt), tt);
    greatest = λ i other at m. chain_even i other at.listed;
    right = ([], [], Some (number 4), refl, inner, record { nothing = refl; same = refl });
  }),
)

-- a completion that answers nothing agrees at depth 0
abbrev open_calls : Completion
open_calls = record {
  construct = λ t vs. unknown;
  extract = λ t v. unknown;
  constructs = λ t vs. unknown;
  extracts = λ t v. unknown;
  place = λ s. 0;
}

nothing_agrees : (p : CheckedProgram) (below : ℕ → Values → List Event → Option Value → Type 0) → Agrees p silent below open_calls
nothing_agrees p below = record {
  outside = λ t trees outside typed allowed known. absurd (known refl);
  outputs = λ t tree typed allowed known. absurd (known refl);
  inside = λ t vs b has typed means known. absurd (known refl);
  allowed = record { partial = λ t vs e. absurd cc; fallible = λ t v e. absurd cc; outputs = λ t v vs e. absurd cc };
  typed = record { construct = λ t vs v e. absurd cc; extract = λ t v vs e. absurd cc };
}

-- at depth 1 (f 4) means nothing: what it calls would be one depth too deep
too_shallow : (trace : List Event) (answer : Option Value) → Means chain silent 1 1 (on 4) trace answer → ⊥
too_shallow trace answer h =
    elim (h.1 open_calls (nothing_agrees chain (Means chain silent 0)) no_calls) [
      | inl g ↦ by_rule g.place g.chosen g.at.listed g.at.of_term g.variables g.matches g.right
      | inr g ↦ g.none 1 (rule_of 1 (pos 0) x [] (called 0 its_value)) (record { listed = refl; of_term = refl }) (each_is 4, (((refl, tt), tt), tt))
    ]
  where
    no_calls : CoversAll chain open_calls 1 (on 4)
    no_calls zero rule at = subst (Covers chain.terms open_calls (on 4)) (same_Some _ rule at.listed) ((tt, tt), tt)
    no_calls (suc zero) rule at = subst (Covers chain.terms open_calls (on 4)) (same_Some _ rule at.listed) ((tt, tt), tt)
    no_calls (suc (suc i)) rule at = absurd (none-some rule at.listed)

    by_rule : (i : ℕ) (rule : TypedRule) → slice_get chain.rules i ≡ Some rule → rule.root ≡ 1 → (a : ℕ → Value)
        → MatchesWith chain.terms open_calls (on 4) rule a
        → RightOf chain.terms open_calls (Makes chain (Means chain silent 0)) a rule trace answer → ⊥
    by_rule zero rule at root a m r =
        let same : 0 ≡ 1 = ap (λ (q : TypedRule). q.root) (same_Some _ rule at) ∙ root in absurd (omega (arith, same))
    by_rule (suc zero) rule at root a m r =
        (subst (λ (q : TypedRule). RightOf chain.terms open_calls (Makes chain (Means chain silent 0)) a q trace answer)
        (sym (same_Some _ rule at)) r).4
    by_rule (suc (suc i)) rule at root a m r = absurd (none-some rule at)

-- ---- (decl pure g ..) (rule (g 1) 1) (rule 1 (f x) (if-let 1 (g x)) 5) (rule 0 (f x) x), where f may fail

abbrev asking : TypedIfLet
asking = record { pattern = typed_int 1 (pos 1); value = called 0 its_value }

abbrev first : TypedRule
first = rule_of 1 (pos 1) x (asking ∷ []) (built_int 1 (pos 5))

abbrev pub conditional : CheckedProgram
conditional = record {
  terms = terms_of (λ t. t == 0) (λ t. t == 1);
  values = one_type;
  has_rules = λ t. true;
  rules = rule_of 0 (pos 0) (typed_int 1 (pos 1)) [] (built_int 1 (pos 1)) ∷ first ∷ rule_of 1 (pos 0) x [] its_value ∷ [];
}

none_greater : (i : ℕ) (rule : TypedRule) → slice_get conditional.rules i ≡ Some rule → rule.priority ≤ℤ pos 1
none_greater zero rule at = subst (λ (r : TypedRule). r.priority ≤ℤ pos 1) (same_Some _ rule at) (omega arith)
none_greater (suc zero) rule at = subst (λ (r : TypedRule). r.priority ≤ℤ pos 1) (same_Some _ rule at) (omega arith)
none_greater (suc (suc zero)) rule at = subst (λ (r : TypedRule). r.priority ≤ℤ pos 1) (same_Some _ rule at) (omega arith)
none_greater (suc (suc (suc i))) rule at = absurd (none-some rule at)

-- (g 1) is 1
one : Means conditional silent 1 0 (on 1) [] (Some (number 1))
one = (
  refl,
  λ c agrees covers. inl (record {
    place = 0;
    chosen = rule_of 0 (pos 0) (typed_int 1 (pos 1)) [] (built_int 1 (pos 1));
    at = record { listed = refl; of_term = refl };
    variables = each_is 1;
    matches = ((refl, tt), tt);
    greatest = λ i other at m. lone i other at.listed at.of_term;
    right = record { nothing = refl; same = refl };
  }),
)
  where
    lone : (i : ℕ) (rule : TypedRule) → slice_get conditional.rules i ≡ Some rule → rule.root ≡ 0 → rule.priority ≤ℤ pos 0
    lone zero rule at root = subst (λ (r : TypedRule). r.priority ≤ℤ pos 0) (same_Some _ rule at) (omega arith)
    lone (suc zero) rule at root =
        let same : 1 ≡ 0 = ap (λ (q : TypedRule). q.root) (same_Some _ rule at) ∙ root in absurd (omega (arith, same))
    lone (suc (suc zero)) rule at root =
        let same : 1 ≡ 0 = ap (λ (q : TypedRule). q.root) (same_Some _ rule at) ∙ root in absurd (omega (arith, same))
    lone (suc (suc (suc i))) rule at root = absurd (none-some rule at)

-- a number is a value of the type
is_value : (n : ℕ) → FitsSigned w128 (pos n) → AreValuesOf one_type (on n) (1 ∷ [])
is_value n fits = record { trees = more_trees (int_tree (pos n)) no_trees; typed = (fits, tt); stand = refl }

-- (f 1) is 5, by the rule of greater priority, whatever else calls answer
condition_holds : Means conditional silent 2 1 (on 1) [] (Some (number 5))
condition_holds = (
  refl,
  λ c agrees covers. inl (record {
    place = 1;
    chosen = first;
    at = record { listed = refl; of_term = refl };
    variables = each_is 1;
    matches = (
      ((refl, tt), tt),
      (
        (
          number 1,
          agrees.inside 0 (on 1) (Some (number 1)) refl (is_value 1 (fits_signed_from_abs w128 (pos 1) (omega arith))) one
              (λ open_call. (covers 1 first (record { listed = refl; of_term = refl })).1.0.1 (on 1) refl (ap (constructed false) open_call)),
          refl,
        ),
        tt,
      ),
    );
    greatest = λ i other at m. none_greater i other at.listed;
    right = record { nothing = refl; same = refl };
  }),
)

-- (f n) asks (g n) before it has chosen
asks_g : (depth n : ℕ) → AsksToChoose conditional silent depth 1 (on n) (asks_value 0 (on n))
asks_g depth n = record {
  place = 1;
  rule = first;
  at = record { listed = refl; of_term = refl };
  site = constructor_call 0 (more_sites (argument 0) no_sites) 0;
  its = inr (inl refl);
  call = constructor_call 0 (more_sites (argument 0) no_sites) 0;
  within = inl refl;
  fixed = λ c agrees covers. (refl, refl);
}

-- (f 3) is stuck at (g 3), which no rule matches
gets_stuck : EndsAt conditional silent (plain_links conditional silent) 2 (asks_value 1 (on 3)) [] (stuck 0 (on 3))
gets_stuck = record {
  left = 0;
  chain = to_choose refl (asks_g 1 3) no_link;
  has_rules = refl;
  infallible = refl;
  none = λ c agrees covers i rule at m. no_match c i rule at.listed at.of_term m;
}
  where
    no_match : (c : Completion) (i : ℕ) (rule : TypedRule) → slice_get conditional.rules i ≡ Some rule → rule.root ≡ 0
        → Matches conditional.terms c (on 3) rule → ⊥
    no_match c zero rule at root m =
        let fits = (subst (λ (q : TypedRule). Matches conditional.terms c (on 3) q) (sym (same_Some _ rule at)) m).1.0.0 in absurd cc
    no_match c (suc zero) rule at root m =
        let same : 1 ≡ 0 = ap (λ (q : TypedRule). q.root) (same_Some _ rule at) ∙ root in absurd (omega (arith, same))
    no_match c (suc (suc zero)) rule at root m =
        let same : 1 ≡ 0 = ap (λ (q : TypedRule). q.root) (same_Some _ rule at) ∙ root in absurd (omega (arith, same))
    no_match c (suc (suc (suc i))) rule at root m = absurd (none-some rule at)

-- at depth 1 (f 1) is spent, since it asks (g 1)
is_spent : EndsAt conditional silent (plain_links conditional silent) 1 (asks_value 1 (on 1)) [] spent
is_spent = record { last = 0; args = on 1; chain = to_choose refl (asks_g 0 1) no_link; has_rules = refl }

-- ---- (rule 1 (f 0) (emit (emit 1))) (rule 0 (f x) x) (rule (h x) (let ((_ u8 (emit x)) (_ u8 (emit x))) x)), where emit, which is 0, has
-- effects, f is 1 and h is 2

abbrev twice : TypedRule
twice = rule_of 2 (pos 0) x [] (built_let 1 (more_typed_bindings 1 1 (called 0 its_value)
    (more_typed_bindings 2 1 (called 0 its_value) no_typed_bindings)) its_value)

abbrev pub nested : TypedRule
nested = rule_of 1 (pos 1) (typed_int 1 (pos 0)) [] (called 0 (called 0 (built_int 1 (pos 1))))

abbrev pub emitting : CheckedProgram
emitting = record {
  terms = terms_of (λ t. false) (λ t. false);
  values = one_type;
  has_rules = λ t. if t == 0 then false else true;
  rules = nested ∷ rule_of 1 (pos 0) x [] its_value ∷ twice ∷ [];
}

-- emit on a number is answered a number
abbrev pub emitted : ℕ → ℕ → Event
emitted n m = record { term = 0; args = more_trees (int_tree (pos n)) no_trees; answer = Some (int_tree (pos m)) }

is_effect : (n m : ℕ) → FitsSigned w128 (pos n) → FitsSigned w128 (pos m) → IsEffect emitting 0 (on n) (emitted n m ∷ []) (Some (number m))
is_effect n m fits fit = record {
  args = more_trees (int_tree (pos n)) no_trees;
  typed = (fits, tt);
  stand = refl;
  answer = Some (int_tree (pos m));
  alone = refl;
  allowed = fit;
  gives_it = refl;
}

emitting_low : (i : ℕ) (rule : TypedRule) → slice_get emitting.rules i ≡ Some rule → rule.priority ≤ℤ pos 1
emitting_low zero rule at = subst (λ (r : TypedRule). r.priority ≤ℤ pos 1) (same_Some _ rule at) (omega arith)
emitting_low (suc zero) rule at = subst (λ (r : TypedRule). r.priority ≤ℤ pos 1) (same_Some _ rule at) (omega arith)
emitting_low (suc (suc zero)) rule at = subst (λ (r : TypedRule). r.priority ≤ℤ pos 1) (same_Some _ rule at) (omega arith)
emitting_low (suc (suc (suc i))) rule at = absurd (none-some rule at)

-- (f 0) emits 1, which is answered 2, then 2, which is answered 9, and is 9
effects_in_order : Means emitting silent 1 1 (on 0) (emitted 1 2 ∷ emitted 2 9 ∷ []) (Some (number 9))
effects_in_order = (
  refl,
  λ c agrees covers. inl (record {
    place = 0;
    chosen = nested;
    at = record { listed = refl; of_term = refl };
    variables = each_is 0;
    matches = ((refl, tt), tt);
    greatest = λ i other at m. emitting_low i other at.listed;
    right = (
      emitted 1 2 ∷ [],
      emitted 2 9 ∷ [],
      Some (number 2),
      refl,
      is_effect 1 2 (fits_signed_from_abs w128 (pos 1) (omega arith)) (fits_signed_from_abs w128 (pos 2) (omega arith)),
      (
        emitted 2 9 ∷ [],
        [],
        Some (number 9),
        refl,
        is_effect 2 9 (fits_signed_from_abs w128 (pos 2) (omega arith)) (fits_signed_from_abs w128 (pos 9) (omega arith)),
        record { nothing = refl; same = refl },
      ),
    );
  }),
)

only_twice : (i : ℕ) (rule : TypedRule) → slice_get emitting.rules i ≡ Some rule → rule.root ≡ 2 → rule.priority ≤ℤ pos 0
only_twice zero rule at root =
    let same : 1 ≡ 2 = ap (λ (q : TypedRule). q.root) (same_Some _ rule at) ∙ root in absurd (omega (arith, same))
only_twice (suc zero) rule at root =
    let same : 1 ≡ 2 = ap (λ (q : TypedRule). q.root) (same_Some _ rule at) ∙ root in absurd (omega (arith, same))
only_twice (suc (suc zero)) rule at root = subst (λ (r : TypedRule). r.priority ≤ℤ pos 0) (same_Some _ rule at) (omega arith)
only_twice (suc (suc (suc i))) rule at root = absurd (none-some rule at)

-- (h 3) emits 3 twice, though nothing uses the answers, and is 3
equal_effects_twice : Means emitting silent 1 2 (on 3) (emitted 3 0 ∷ emitted 3 0 ∷ []) (Some (number 3))
equal_effects_twice = (
  refl,
  λ c agrees covers. inl (record {
    place = 2;
    chosen = twice;
    at = record { listed = refl; of_term = refl };
    variables = each_is 3;
    matches = (((refl, tt), tt), tt);
    greatest = λ i other at m. only_twice i other at.listed at.of_term;
    right = (
      emitted 3 0 ∷ [],
      emitted 3 0 ∷ [],
      Some (number 0),
      refl,
      is_effect 3 0 (fits_signed_from_abs w128 (pos 3) (omega arith)) (fits_signed_from_abs w128 (pos 0) (omega arith)),
      (
        emitted 3 0 ∷ [],
        [],
        Some (number 0),
        refl,
        is_effect 3 0 (fits_signed_from_abs w128 (pos 3) (omega arith)) (fits_signed_from_abs w128 (pos 0) (omega arith)),
        record { nothing = refl; same = refl },
      ),
    );
  }),
)

-- ---- (decl pure partial p ..) (rule (p 1) 1) (rule (f x) (P.Pair (p x) (emit x))), where p is 0, emit 2, f 1, which may fail, and P.Pair 9

abbrev pairs : TypedRule
pairs = rule_of 1 (pos 0) x [] (built_term 1 9 (more_built (called 0 its_value) (more_built (called 2 its_value) no_built)))

abbrev failing : CheckedProgram
failing = record {
  terms = terms_of (λ t. t == 0) (λ t. if t == 0 then true else (t == 1));
  values = one_type;
  has_rules = λ t. if t == 2 then false else true;
  rules = rule_of 0 (pos 0) (typed_int 1 (pos 1)) [] (built_int 1 (pos 1)) ∷ pairs ∷ [];
}

abbrev emitted_two : Event
emitted_two = record { term = 2; args = more_trees (int_tree (pos 2)) no_trees; answer = Some (int_tree (pos 0)) }

-- (p 2) is none
fails_there : Means failing silent 1 0 (on 2) [] None
fails_there = (
  refl,
  λ c agrees covers. inr (record {
    none = λ i rule at m. no_match c i rule at.listed at.of_term m;
    partial =
        refl;
    failure = record { nothing = refl; none = refl };
  }),
)
  where
    no_match : (c : Completion) (i : ℕ) (rule : TypedRule) → slice_get failing.rules i ≡ Some rule → rule.root ≡ 0
        → Matches failing.terms c (on 2) rule → ⊥
    no_match c zero rule at root m =
        let fits = (subst (λ (q : TypedRule). Matches failing.terms c (on 2) q) (sym (same_Some _ rule at)) m).1.0.0 in absurd cc
    no_match c (suc zero) rule at root m =
        let same : 1 ≡ 0 = ap (λ (q : TypedRule). q.root) (same_Some _ rule at) ∙ root in absurd (omega (arith, same))
    no_match c (suc (suc i)) rule at root m = absurd (none-some rule at)

pairs_alone : (i : ℕ) (rule : TypedRule) → slice_get failing.rules i ≡ Some rule → rule.priority ≤ℤ pos 0
pairs_alone zero rule at = subst (λ (r : TypedRule). r.priority ≤ℤ pos 0) (same_Some _ rule at) (omega arith)
pairs_alone (suc zero) rule at = subst (λ (r : TypedRule). r.priority ≤ℤ pos 0) (same_Some _ rule at) (omega arith)
pairs_alone (suc (suc i)) rule at = absurd (none-some rule at)

-- what is said of the result, which needs (p 2)
result_fails : (c : Completion) → Agrees failing silent (Means failing silent 1) c
    → on_got (word_value c (each_is 2) (Some (number 0) ∷ []) (word_of failing.terms pairs.right)) (IsFailure [] None) (λ v. IsValue v [] None)
result_fails c agrees = by (c.construct 0 (on 2)) (agrees.inside 0 (on 2) None refl (is_value 2 (fits_signed_from_abs w128 (pos 2) (omega arith)))
    fails_there)
  where
    by : (g : Got Value) → (g ≢ unknown → g ≡ fails)
        → on_got (made 1 0 (more g (gives (more_values (number 0) no_values)))) (IsFailure [] None) (λ v. IsValue v [] None)
    by unknown says = tt
    by fails says = record { nothing = refl; none = refl }
    by (gives v) says = let wrong : gives v ≡ fails = says (λ e. cc) in absurd cc

-- (f 2) emits 2, and is none, since the result needs a call that fails: no effect is taken back
effects_stay : Means failing silent 2 1 (on 2) (emitted_two ∷ []) None
effects_stay = (
  refl,
  λ c agrees covers. inl (record {
    place = 1;
    chosen = pairs;
    at = record { listed = refl; of_term = refl };
    variables = each_is 2;
    matches = (((refl, tt), tt), tt);
    greatest = λ i other at m. pairs_alone i other at.listed;
    right = (
      emitted_two ∷ [],
      [],
      Some (number 0),
      refl,
      record {
        args = more_trees (int_tree (pos 2)) no_trees;
        typed = (fits_signed_from_abs w128 (pos 2) (omega arith), tt);
        stand = refl;
        answer = Some (int_tree (pos 0));
        alone = refl;
        allowed = fits_signed_from_abs w128 (pos 0) (omega arith);
        gives_it = refl;
      },
      result_fails c agrees,
    );
  }),
)
