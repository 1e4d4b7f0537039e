-- The rule (f _) of priority 1 leaves (f 5) of priority 0 nothing to match; the other way round it doesn't.
use Rattle.std.proofs.Common.{◌≡◌, ◌<◌, inl, inr, ℕ, zero, suc, ℤ, pos, false, List, [], ◌∷◌, None, Some, slice_get, length, refl, sym, ◌∙◌, subst, arith}
use Rattle.std.specs.Prelude.{Contains}
use Rattle.isle_rules.specs.TypedRules.{TypedPattern, typed_int, typed_wildcard, no_typed, more_typed, built_int, TypedRule}
use Rattle.isle_meaning.specs.Facts.{TermFacts}
use Rattle.isle_meaning.specs.Sites.{Site, argument}
use Rattle.isle_meaning.specs.Demands.{equal, constrained, int_constraint, Among}
use Rattle.isle_meaning.specs.Derived.{demanded}
use Rattle.isle_meaning.specs.Faults.{IsConstrained, IsFree, HasConstraints}
use Rattle.isle_meaning.specs.Demands.{DemandOf}
use Rattle.isle_blocks.specs.RuleFaults.{MayMatch, IsShadowing}
use Rattle.isle_blocks.proofs.Cases.SizesAndErrors.{here, is_five, alone}
use Rattle.isle_blocks.proofs.Cases.RuleErrors.{nothing}

abbrev rule_of : ℤ → TypedPattern → TypedRule
rule_of priority pattern = record {
  root = 4;
  args = more_typed pattern no_typed;
  iflets = [];
  right = built_int 3 (pos 0);
  variables = [];
  priority = priority;
  pos = here;
  name = None;
}

-- (rule 1 (f _) 0), or of another priority
abbrev any : ℤ → TypedRule
any priority = rule_of priority (typed_wildcard 3)

-- (rule (f 5) 0), or of another priority
abbrev five : ℤ → TypedRule
five priority = rule_of priority (typed_int 3 (pos 5))

-- a rule without a test constrains nothing, one with a test its argument alone
none_constrained : HasConstraints (Among []) 0
none_constrained = record {
  sites = [];
  number = refl;
  once = λ i j s e f. absurd cc;
  all = λ s. (λ (c, h). absurd (nothing (constrained s c) h), λ (k, within, is). absurd (omega arith));
}

its_argument : (s : Site) → IsConstrained (Among (is_five ∷ [])) s → argument 0 ≡ s
its_argument s (c, h) = let same : constrained s c ≡ is_five = alone (constrained s c) h in cc

one_constrained : HasConstraints (Among (is_five ∷ [])) 1
one_constrained = record {
  sites = argument 0 ∷ [];
  number = refl;
  once = once;
  all = λ s. (λ h. (0, omega arith, its_argument s h), λ h. back s h);
}
  where
    once : (i j : ℕ) (s : Site) → slice_get (argument 0 ∷ []) i ≡ Some s → slice_get (argument 0 ∷ []) j ≡ Some s → i ≡ j
    once zero zero s e f = refl
    once zero (suc j) s e f = absurd cc
    once (suc i) j s e f = absurd cc

    back : (s : Site) → Contains (argument 0 ∷ []) s → IsConstrained (Among (is_five ∷ [])) s
    back s (zero, within, is) = subst (λ (t : Site). IsConstrained (Among (is_five ∷ [])) t) is (int_constraint (pos 5) 3, demanded (inl refl))
    back s (suc k, within, is) = absurd (omega arith)

any_is_free : IsFree (Among [])
any_is_free s u closed = nothing (equal s u) closed.0

five_is_free : IsFree (Among (is_five ∷ []))
five_is_free s u closed = let same : equal s u ≡ is_five = alone (equal s u) closed.0 in cc

module _ (facts : TermFacts) (single : facts.multi 4 ≡ false) where
  any_may_match : (priority : ℤ) → MayMatch facts (any priority)
  any_may_match priority (inl conflict) = nothing _ conflict.has_one
  any_may_match priority (inr endless) = nothing _ endless.same

  five_may_match : (priority : ℤ) → MayMatch facts (five priority)
  five_may_match priority (inl conflict) =
      let one = alone (constrained conflict.site conflict.one) conflict.has_one in
      let other = alone (constrained conflict.site conflict.other) conflict.has_other in conflict.differ cc
  five_may_match priority (inr endless) = let same = alone (equal endless.site endless.part) endless.same in absurd cc

  -- where the rule without a test is the higher one it shadows the other
  pub any_shadows_five : IsShadowing facts (any (pos 1) ∷ five (pos 0) ∷ []) 0 1
  any_shadows_five = record {
    rivals = record {
      term = 4;
      first = record { rule = any (pos 1); at = refl; of_term = refl; may = any_may_match (pos 1) };
      second = record { rule = five (pos 0); at = refl; of_term = refl; may = five_may_match (pos 0) };
      single = single;
    };
    shadow = record {
      above = omega arith;
      meet = λ differ. nothing _ differ.has_one;
      fewer = 0;
      many = 1;
      has_fewer = none_constrained;
      has_many = one_constrained;
      no_more = omega arith;
      subset = (any_is_free, five_is_free, λ less s c h. absurd (nothing (constrained s c) h), λ less. absurd (omega arith));
    };
  }

  some : (n : ℕ) → HasConstraints (Among (is_five ∷ [])) n → 0 < n
  some n count = let (k, within, is) = (count.all (argument 0)).0 (int_constraint (pos 5) 3, demanded (inl refl)) in
      let number = count.number in omega arith

  none : (n : ℕ) → HasConstraints (Among []) n → n ≡ 0
  none n count = let number = count.number in sym number ∙ empty count.sites (λ s h. let (c, d) = (count.all s).1 h in nothing (constrained s c) d)
    where
      empty : (sites : List Site) → ((s : Site) → Contains sites s → ⊥) → length sites ≡ 0
      empty [] never = refl
      empty (s ∷ sites) never = absurd (never s (0, omega arith, refl))

  -- the other way round it doesn't, as it has a test more
  pub five_shadows_nothing : IsShadowing facts (five (pos 1) ∷ any (pos 0) ∷ []) 0 1 → ⊥
  five_shadows_nothing two =
      let one : two.rivals.first.rule ≡ five (pos 1) = let e = two.rivals.first.at in cc in
      let other : two.rivals.second.rule ≡ any (pos 0) = let e = two.rivals.second.at in cc in
      let more = some two.shadow.fewer
      (subst (λ (r : TypedRule). HasConstraints (DemandOf facts r) two.shadow.fewer) one two.shadow.has_fewer) in
      let less = none two.shadow.many (subst (λ (r : TypedRule). HasConstraints (DemandOf facts r) two.shadow.many) other two.shadow.has_many) in
      let fewer = two.shadow.no_more in omega arith
