-- Worked case: (rule (m x) 1), (rule (m x) 2) and (rule (m 5) 3). On 5 the bag has all three, on 6 the first two; the walk returns 3, 1, 2 and
-- 1, 2.
use Rattle.std.proofs.Common.{◌≡◌, ◌≢◌, ◌⊎◌, inl, inr, ℕ, zero, suc, pos, true, false, List, [], ◌∷◌, Some, slice_get, refl, ap, sym, subst}
use Rattle.std.proofs.Common.{◌∙◌}
use Rattle.std.proofs.lemmas.Option.{same_Some, none-some}
use Rattle.isle_types.specs.declared.ids.Sym.{Sym}
use Rattle.isle_rules.specs.TypedRules.{TypedRule, typed_bind, typed_int, typed_wildcard, no_typed, more_typed, built_int}
use Rattle.isle_meaning.specs.Got.{fails, gives}
use Rattle.isle_meaning.specs.Values.{Values, int_value, no_values, more_values}
use Rattle.isle_meaning.specs.Facts.{TermFacts, declared_shape}
use Rattle.isle_meaning.specs.Answers.{Completion}
use Rattle.isle_meaning.specs.Held.{Held, held_value}
use Rattle.isle_meaning.specs.Demands.{Demand, constrained, int_constraint}
use Rattle.isle_meaning.specs.Holds.{Holds, IsProper}
use Rattle.isle_meaning.specs.Demands.{DemandOf}
use Rattle.isle_meaning.specs.Sites.{Site, argument}
use Rattle.isle_blocks.specs.declared.ids.BindingId.{BindingId}
use Rattle.isle_blocks.specs.declared.binding.Binding.TheVariants as sites
use Rattle.isle_blocks.specs.declared.constraint.Constraint.{Constraint}
use Rattle.isle_blocks.specs.declared.constraint.Constraint.TheVariants as tests
use Rattle.isle_blocks.specs.declared.rule.Rule.{Rule}
use Rattle.isle_blocks.specs.RuleFaults.{own_result}
use Rattle.isle_blocks.specs.RuleSets.{RulesOverSites}
use Rattle.isle_blocks.specs.Trees.Functions.{functions_model}
use Rattle.isle_blocks.specs.Trees.RuleBags.{Way, Match, held_at, HasMultiCall, IsMatch, AreOne, IsBag}
use Rattle.isle_blocks.specs.Trees.View.{rules_of}
use Rattle.isle_blocks.proofs.Trees.Bags.Placed.{apart_pairs}
use Rattle.isle_trees.specs.Bag.{Picks, Model, gave, walk_all}
use Rattle.isle_trees.specs.Rules.{Elem}
use Rattle.isle_trees.specs.Tree.{Steps, done, «match», give, no_arm, arm}
use Rattle.isle_trees.proofs.Basics.{contains_elem, elem_contains}

-- the terms are `multi`, and of one argument
abbrev facts : TermFacts
facts = record {
  shape = λ t. declared_shape;
  pure = λ t. true;
  partial = λ t. false;
  multi = λ t. true;
  infallible = λ t. false;
  inputs = λ t. 1 ∷ [];
  type_of = λ t. 1;
  variant_fields = λ ty k. [];
  struct_fields = λ ty. [];
  constant_type = λ n. 1;
}

-- nothing is called
abbrev answers : Completion
answers = record { construct = λ t vs. fails; extract = λ t v. fails; constructs = λ t vs. gives []; extracts = λ t v. gives []; place = λ s. 0 }

-- an argument
abbrev on : ℕ → Values
on n = more_values (int_value (pos n)) no_values

-- a rule of any argument that gives this, and the one of 5
abbrev any : TypedRule → ℕ → TypedRule
any base n = record base { root = 0; args = more_typed (typed_bind 1 0 (typed_wildcard 1)) no_typed; iflets = []; right = built_int 1 (pos n) }

abbrev five : TypedRule → TypedRule
five base = record base { root = 0; args = more_typed (typed_int 1 (pos 5)) no_typed; iflets = []; right = built_int 1 (pos 3) }

abbrev rules : TypedRule → List TypedRule
rules base = any base 1 ∷ any base 2 ∷ five base ∷ []

-- a way, and the match of a rule, which takes nothing
abbrev any_way : Way
any_way s = 0

abbrev match_of : ℕ → Match
match_of k = record { rule = k; way = any_way }

module _ (base : TypedRule) where
  -- no rule has a multi call
  has_none : (n : ℕ) (s : Site) → HasMultiCall facts (any base n) s → ⊥
  has_none n s (inl (inl e)) = absurd cc
  has_none n s (inl (inr (inl e))) = absurd cc
  has_none n s (inl (inr (inr z))) = absurd z
  has_none n s (inr e) = absurd cc

  five_none : (s : Site) → HasMultiCall facts (five base) s → ⊥
  five_none s (inl (inl e)) = absurd cc
  five_none s (inl (inr (inl e))) = absurd cc
  five_none s (inl (inr (inr z))) = absurd z
  five_none s (inr e) = absurd cc

  each_none : (k : ℕ) (r : TypedRule) → slice_get (rules base) k ≡ Some r → (s : Site) → HasMultiCall facts r s → ⊥
  each_none zero r e s h = has_none 1 s (subst (λ (z : TypedRule). HasMultiCall facts z s) (sym (same_Some (any base 1) r e)) h)
  each_none (suc zero) r e s h = has_none 2 s (subst (λ (z : TypedRule). HasMultiCall facts z s) (sym (same_Some (any base 2) r e)) h)
  each_none (suc (suc zero)) r e s h = five_none s (subst (λ (z : TypedRule). HasMultiCall facts z s) (sym (same_Some (five base) r e)) h)
  each_none (suc (suc (suc k))) r e s h = none-some r e

  -- a match on a number
  abbrev IsOn : ℕ → Match → Type 0
  IsOn n m = IsMatch facts answers (on n) (rules base) 0 m

  -- the first two match anything
  one_matches : (n : ℕ) → IsOn n (match_of 0)
  one_matches n = record {
    rule = any base 1;
    is = record { listed = refl; of_term = refl };
    takes = λ s h. absurd (has_none 1 s h);
    holds = λ d m proper. absurd m;
  }

  two_matches : (n : ℕ) → IsOn n (match_of 1)
  two_matches n = record {
    rule = any base 2;
    is = record { listed = refl; of_term = refl };
    takes = λ s h. absurd (has_none 2 s h);
    holds = λ d m proper. absurd m;
  }

  -- the third matches 5
  five_holds : (d : Demand) → (d ≡ constrained (argument 0) (int_constraint (pos 5) 1)) ⊎ ⊥
      → Holds (held_at facts answers (on 5) (five base) any_way) d
  five_holds d (inl e) = subst (Holds (held_at facts answers (on 5) (five base) any_way)) (sym e) (held_value (int_value (pos 5)), refl, refl)
  five_holds d (inr z) = absurd z

  five_matches : IsOn 5 (match_of 2)
  five_matches = record {
    rule = five base;
    is = record { listed = refl; of_term = refl };
    takes = λ s h. absurd (five_none s h);
    holds = λ d m proper. five_holds d m;
  }

  -- and not 6
  six_fails : (m : Match) → IsOn 6 m → (m.rule ≡ 2) → ⊥
  six_fails m is e =
      let its = is.is in
      let same : five base ≡ is.rule = same_Some (five base) is.rule (sym (ap (slice_get (rules base)) e) ∙ its.listed) in
      let holds = subst (λ (z : TypedRule). (d : Demand) → DemandOf facts z d → IsProper d → Holds (held_at facts answers (on 6) z m.way) d)
      (sym same) is.holds in
      let (h, given, meets) = holds (constrained (argument 0) (int_constraint (pos 5) 1)) (inl refl) tt in
      let one : h ≡ held_value (int_value (pos 6)) = cc in
      let two : held_value (int_value (pos 6)) ≡ held_value (int_value (pos 5)) = sym one ∙ meets in cc

  -- matches of one rule are one
  same_rule : (m : Match) (k : ℕ) → m.rule ≡ k → AreOne facts (rules base) m (match_of k)
  same_rule m k e = (e, λ r at s h. absurd (each_none m.rule r at s h))

  -- and of others aren't
  apart : (j k : ℕ) (m : Match) → j ≢ k → m ≡ match_of k → AreOne facts (rules base) (match_of j) m → ⊥
  apart j k m n e same = n (same.0 ∙ ap (λ (z : Match). z.rule) e)

  -- on 5 all match
  abbrev all : List Match
  all = match_of 0 ∷ match_of 1 ∷ match_of 2 ∷ []

  in_all : (m : Match) → Elem m all → IsOn 5 m
  in_all m (inl e) = subst (IsOn 5) (sym e) (one_matches 5)
  in_all m (inr (inl e)) = subst (IsOn 5) (sym e) (two_matches 5)
  in_all m (inr (inr (inl e))) = subst (IsOn 5) (sym e) five_matches
  in_all m (inr (inr (inr z))) = absurd z

  of_all : (k : ℕ) (r : TypedRule) → slice_get (rules base) k ≡ Some r → Elem (match_of k) all
  of_all zero r e = inl refl
  of_all (suc zero) r e = inr (inl refl)
  of_all (suc (suc zero)) r e = inr (inr (inl refl))
  of_all (suc (suc (suc k))) r e = absurd (none-some r e)

  -- The bag has three.
  bag_on_five : IsBag facts answers (on 5) (rules base) 0 all
  bag_on_five = record {
    sound = λ m inside. in_all m (contains_elem m all inside);
    full = λ m is. let its = is.is in (
      match_of m.rule,
      elem_contains (match_of m.rule) all (of_all m.rule is.rule its.listed),
      same_rule m m.rule refl,
    );
    once = apart_pairs (AreOne facts (rules base)) all (
      (λ m i. elim i [
        | inl e ↦ apart 0 1 m (λ q. cc) e
        | inr j ↦ elim j [ inl e ↦ apart 0 2 m (λ q. cc) e | inr z ↦ absurd z ]
      ]),
      ((λ m i. elim i [ inl e ↦ apart 1 2 m (λ q. cc) e | inr z ↦ absurd z ]), ((λ m i. absurd i), tt)),
    );
  }

  -- on 6 two
  abbrev both : List Match
  both = match_of 0 ∷ match_of 1 ∷ []

  in_both : (m : Match) → Elem m both → IsOn 6 m
  in_both m (inl e) = subst (IsOn 6) (sym e) (one_matches 6)
  in_both m (inr (inl e)) = subst (IsOn 6) (sym e) (two_matches 6)
  in_both m (inr (inr z)) = absurd z

  of_both : (k : ℕ) (r : TypedRule) → slice_get (rules base) k ≡ Some r → k ≢ 2 → Elem (match_of k) both
  of_both zero r e n = inl refl
  of_both (suc zero) r e n = inr (inl refl)
  of_both (suc (suc zero)) r e n = absurd (n refl)
  of_both (suc (suc (suc k))) r e n = absurd (none-some r e)

  -- The bag has two.
  bag_on_six : IsBag facts answers (on 6) (rules base) 0 both
  bag_on_six = record {
    sound = λ m inside. in_both m (contains_elem m both inside);
    full = λ m is.
        let its = is.is in
        (match_of m.rule, elem_contains (match_of m.rule) both (of_both m.rule is.rule its.listed (six_fails m is)), same_rule m m.rule refl);
    once = apart_pairs (AreOne facts (rules base)) both (
      (λ m i. elim i [
        | inl e ↦ apart 0 1 m (λ q. cc) e
        | inr z ↦ absurd z
      ]),
      ((λ m i. absurd i), tt),
    );
  }

  -- their results are 1, 2 and 3
  gives_one : (n : ℕ) → held_at facts answers (on n) (any base 1) any_way (own_result facts (any base 1)) ≡ gives (held_value (int_value (pos 1)))
  gives_one n = refl

  gives_two : (n : ℕ) → held_at facts answers (on n) (any base 2) any_way (own_result facts (any base 2)) ≡ gives (held_value (int_value (pos 2)))
  gives_two n = refl

  gives_three : held_at facts answers (on 5) (five base) any_way (own_result facts (five base)) ≡ gives (held_value (int_value (pos 3)))
  gives_three = refl

-- a site by its number
abbrev id : ℕ → BindingId
id n = record { 0 = n }

module _ (name : Sym → List ℕ) (own : Rule) (start : Picks Held) where
  -- the rules over the argument, 1, 2 and 3
  abbrev set : RulesOverSites
  set = record {
    rules = record own { constraints = []; equals = []; iterators = []; impure = []; result = id 1 }
        ∷ record own { constraints = []; equals = []; iterators = []; impure = []; result = id 2 }
        ∷ record own {
          constraints = (id 0, tests.ConstInt (pos 5) (record { 0 = 1 })) ∷ [];
          equals = [];
          iterators = [];
          impure = [];
          result = id 3;
        } ∷ [];
    sites = sites.Argument (record { 0 = 0 }) ∷ sites.ConstInt (pos 1) (record { 0 = 1 }) ∷ sites.ConstInt (pos 2) (record { 0 = 1 })
        ∷ sites.ConstInt (pos 3) (record { 0 = 1 }) ∷ [];
  }

  -- what the sites are
  abbrev model : Values → Model Held
  model args = functions_model name set facts answers args

  -- the test of the third comes first, and then the others return
  abbrev tree : Steps Constraint
  tree = «match» [] 0 (arm (tests.ConstInt (pos 5) (record { 0 = 1 })) [] (give [] 2 done) no_arm) (give [] 0 (give [] 1 done))

  -- the walk returns 3, 1, 2 on 5, and 1, 2 on 6
  walk_on_five : walk_all (rules_of name set) (model (on 5)) tree start ≡ gave 2 start ∷ gave 0 start ∷ gave 1 start ∷ []
  walk_on_five = refl

  walk_on_six : walk_all (rules_of name set) (model (on 6)) tree start ≡ gave 0 start ∷ gave 1 start ∷ []
  walk_on_six = refl
