-- Worked cases: what literal rules demand, what follows, and where they are unreachable.
use Rattle.std.proofs.Common.{arith, ◌≡◌, ℕ, pos, [], ◌∷◌, inl, inr, true, false, refl, None, codes}
use Rattle.std.specs.Prelude.{if◌then◌else◌, ◌==◌}
use Rattle.isle_rules.specs.TypedRules.{TypedPatterns, typed_bind, typed_var, typed_int, typed_term, typed_wildcard, typed_and, no_typed}
use Rattle.isle_rules.specs.TypedRules.{more_typed, built_int, TypedRule}
use Rattle.isle_meaning.specs.Facts.{variant_shape, declared_shape, TermFacts}
use Rattle.isle_meaning.specs.Values.{int_value, no_values, more_values}
use Rattle.isle_meaning.specs.Sites.{argument, match_variant}
use Rattle.isle_meaning.specs.Held.{held_value}
use Rattle.isle_meaning.specs.Demands.{constrained, equal, int_constraint, demands_of}
use Rattle.isle_meaning.specs.Derived.{Derived, demanded, flipped, shared, directly, of_variant}
use Rattle.isle_meaning.specs.Faults.{IsUnreachable, Differ}
use Rattle.isle_meaning.specs.Answers.{Completion}
use Rattle.isle_meaning.specs.Matching.{Matches}
use Rattle.isle_meaning.specs.Held.{Meets}
use Rattle.isle_meaning.specs.Laws.Matching.{IsRuleOfTypes}
use Rattle.isle_meaning.specs.Demands.{DemandOf}

-- the term 0 is the variant 1 of the type 9, with one field of that type
abbrev terms : TermFacts
terms = record {
  shape = λ t. if t == 0 then variant_shape 1 else declared_shape;
  pure = λ t. true;
  partial = λ t. false;
  multi = λ t. false;
  infallible = λ t. true;
  inputs = λ t. 9 ∷ [];
  type_of = λ t. 9;
  variant_fields = λ ty k. 9 ∷ [];
  struct_fields = λ ty. [];
  constant_type = λ n. 0;
}

-- a rule of these arguments whose right side is 7, with the one variable `x`
abbrev rule_of : ℕ → TypedPatterns → TypedRule
rule_of ty args = record {
  root = 1;
  args = args;
  iflets = [];
  right = built_int 1 (pos 7);
  variables = record { name = codes "x"; type = ty } ∷ [];
  priority = pos 0;
  pos = record { file = 0; offset = 0 };
  name = None;
}

-- (rule (term x @ 2 x) 7)
abbrev rule : TypedRule
rule = rule_of 1 (more_typed (typed_bind 1 0 (typed_int 1 (pos 2))) (more_typed (typed_var 1 0) no_typed))

its_demands : demands_of terms rule ≡ constrained (argument 0) (int_constraint (pos 2) 1) ∷ (equal (argument 1) (argument 0) ∷ [])
its_demands = refl

-- it becomes (term 2 2)
both_two : Derived (DemandOf terms rule) (constrained (argument 1) (int_constraint (pos 2) 1))
both_two = shared (flipped (demanded (inr (inl refl)))) (demanded (inl refl))

is_rule : IsRuleOfTypes terms (1 ∷ (1 ∷ [])) rule
is_rule = record {
  well = record { args = ((tt, λ h. absurd h), (inl refl, tt)); iflets = tt; right = tt };
  result_type = 1;
  var_types = λ k. 1;
  typed = record { args = ((refl, refl, refl), ((refl, refl), tt)); iflets = tt; right = refl };
}

-- it matches 2 and 2, whatever calls are answered
matches_two : (c : Completion) → Matches terms c (more_values (int_value (pos 2)) (more_values (int_value (pos 2)) no_values)) rule
matches_two c = (λ k. int_value (pos 2), (((refl, refl), (refl, tt)), tt))

-- (rule (term x @ 2 (and x 3)) 7)
abbrev clash : TypedRule
clash = rule_of 1 (more_typed (typed_bind 1 0 (typed_int 1 (pos 2)))
    (more_typed (typed_and 1 (more_typed (typed_var 1 0) (more_typed (typed_int 1 (pos 3)) no_typed))) no_typed))

-- it is unreachable: its second argument has to be 2 and 3
is_dead : IsUnreachable (DemandOf terms clash)
is_dead = inl (record {
  site = argument 1;
  one = int_constraint (pos 2) 1;
  other = int_constraint (pos 3) 1;
  has_one = shared (flipped (demanded (inr (inl refl)))) (demanded (inl refl));
  has_other = demanded (inr (inr (inl refl)));
  differ = λ e. cc;
})

-- (rule (term 3 _) 7)
abbrev of_three : TypedRule
of_three = rule_of 1 (more_typed (typed_int 1 (pos 3)) (more_typed (typed_wildcard 1) no_typed))

-- the first rule and this one never both match
apart : Differ (DemandOf terms rule) (DemandOf terms of_three)
apart = record {
  site = argument 0;
  one = int_constraint (pos 2) 1;
  other = int_constraint (pos 3) 1;
  has_one = demanded (inl refl);
  has_other = demanded (inl refl);
  apart = λ e. cc;
}

-- (rule (term (and x (T.One x))) 7)
abbrev endless : TypedRule
endless = rule_of 9 (more_typed (typed_and 9 (more_typed (typed_bind 9 0 (typed_wildcard 9))
    (more_typed (typed_term 9 0 (more_typed (typed_var 9 0) no_typed)) no_typed))) no_typed)

-- it is unreachable: its argument would be a field of itself
never_ends : IsUnreachable (DemandOf terms endless)
never_ends = inr (record {
  site = argument 0;
  part = match_variant (argument 0) 1 0;
  inside = directly (of_variant {n = 1} (demanded (inl refl)) (omega arith));
  same = flipped (demanded (inr (inl refl)));
})

-- what a value meets tells no integer's type: two constraints that differ in the type alone are told apart by the site's type
meets_both : Meets (int_constraint (pos 2) 1) (held_value (int_value (pos 2))) × Meets (int_constraint (pos 2) 2) (held_value (int_value (pos 2)))
meets_both = (refl, refl)
