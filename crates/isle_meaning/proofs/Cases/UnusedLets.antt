-- Worked case: (if-let _ (let ((y ty (each (part)))) 5)), where `each` is `multi` and `part` partial. The rule needs one value of `each`, but
-- doesn't demand that `part` has one: the value of `y` isn't used.
use Rattle.std.proofs.Common.{◌==◌, zero, pos, true, false, [], ◌∷◌, inl, inr, refl}
use Rattle.isle_rules.specs.TypedRules.{typed_wildcard, no_typed, built_int, built_term, built_let, no_built, more_built, no_typed_bindings}
use Rattle.isle_rules.specs.TypedRules.{more_typed_bindings, TypedRule}
use Rattle.isle_meaning.specs.Demands.{constrained, some_constraint}
use Rattle.isle_meaning.specs.Elaborated.{OpensItsMultiCalls}
use Rattle.isle_meaning.specs.Facts.{TermFacts, declared_shape}
use Rattle.isle_meaning.specs.Sites.{Site, constructor_call, match_some, no_sites, more_sites}

-- term 1 is `multi`, and term 2 partial
abbrev facts : TermFacts
facts = record {
  shape = λ t. declared_shape;
  pure = λ t. true;
  partial = λ t. t == 2;
  multi = λ t. t == 1;
  infallible = λ t. false;
  inputs = λ t. [];
  type_of = λ t. 3;
  variant_fields = λ ty k. [];
  struct_fields = λ ty. [];
  constant_type = λ n. 3;
}

-- the rule, but for its right side
abbrev unused : TypedRule → TypedRule
unused rule = record rule {
  args = no_typed;
  iflets = record {
    pattern = typed_wildcard 3;
    value = built_let 3 (more_typed_bindings 0 3 (built_term 3 1 (more_built (built_term 3 2 no_built) no_built)) no_typed_bindings)
        (built_int 3 (pos 5));
  } ∷ [];
}

-- the call of `part`, and that of `each` on its content
abbrev part : Site
part = constructor_call 2 no_sites zero

abbrev each : Site
each = constructor_call 1 (more_sites (match_some part) no_sites) zero

-- the rule doesn't open its multi call
opens_not : (rule : TypedRule) → OpensItsMultiCalls facts (unused rule) → ⊥
opens_not rule opens = opens each (inl (inr (inr (inr (inl refl))))) (constrained part some_constraint) (inl refl)
