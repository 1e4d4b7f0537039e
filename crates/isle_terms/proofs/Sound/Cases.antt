-- Worked cases: literal rules that are well typed and keep scopes, and some that don't.
use Rattle.std.proofs.Common.{ℕ, pos, true, false, List, [], ◌∷◌, None, Some, refl, ap, codes, inl, arith}
use Rattle.isle_ast.specs.declared.pos.Pos.{Pos}
use Rattle.isle_types.specs.declared.types.IntType.TheVariants.{U8}
use Rattle.isle_rules.specs.TypedRules.{typed_bind, typed_var, typed_int, typed_term, typed_wildcard, no_typed, more_typed, built_var, built_int}
use Rattle.isle_rules.specs.TypedRules.{built_term, no_built, more_built, built_let, no_typed_bindings, more_typed_bindings, TypedRule, Variable}
use Rattle.isle_rules.specs.Signatures.{Flags, by_rules, variant_form, declared_form, Signature, Declared}
use Rattle.isle_rules.specs.Elaboration.{of_integer}
use Rattle.isle_rules.specs.SoundRules.WellTyped.{IsTypedPattern, IsTypedRule}
use Rattle.isle_rules.specs.SoundRules.KeptScopes.{Scope, PatternBinds, ExprUses, KeepsScopes, nothing_bound}

abbrev here : Pos
here = record { file = 0; offset = 0 }

abbrev no_flags : Flags
no_flags = record { pure = false; multi = false; partial = false; rec = false }

-- (type Op (enum (Add (a u8) (b u8)) (Neg (a u8)))) (decl simp (Op) u8): u8 is type 1, and Op is type 13
abbrev terms : List Signature
terms =
    record { name = codes "simp"; args = 13 ∷ []; ret = 1; form = declared_form no_flags (Some by_rules) None; pos = here }
    ∷ record { name = codes "Op.Add"; args = 1 ∷ 1 ∷ []; ret = 13; form = variant_form 0; pos = here }
    ∷ record { name = codes "Op.Neg"; args = 1 ∷ []; ret = 13; form = variant_form 1; pos = here } ∷ []

abbrev declared : Declared
declared = record { types = record { types = []; constants = [] }; terms = terms; conversions = []; expands = true }

abbrev x : Variable
x = record { name = codes "x"; type = 1 }

abbrev y : Variable
y = record { name = codes "y"; type = 1 }

-- (rule (simp (Op.Add x x)) x)
abbrev twice : TypedRule
twice = record {
  root = 0;
  args = more_typed (typed_term 13 1 (more_typed (typed_bind 1 0 (typed_wildcard 1)) (more_typed (typed_var 1 0) no_typed))) no_typed;
  iflets = [];
  right = built_var 1 0;
  variables = x ∷ [];
  priority = pos 0;
  pos = here;
  name = None;
}

twice_typed : IsTypedRule declared twice
twice_typed = record {
  root = _;
  flags = no_flags;
  known = refl;
  ruled = (None, refl);
  args = (
    (
      refl,
      record {
        term = _;
        known = refl;
        type = refl;
        usable = refl;
        whole = refl;
        args = ((refl, (x, refl, refl), refl), ((refl, (x, refl, refl)), tt));
      },
    ),
    tt,
  );
  iflets = tt;
  right = (refl, (x, refl, refl));
  unordered = λ multi. refl;
}

twice_scoped : KeepsScopes twice
twice_scoped = record {
  matched = record { usable = 0 ∷ []; count = 1 };
  met = record { usable = 0 ∷ []; count = 1 };
  args = (
    record { usable = 0 ∷ []; count = 1 },
    (
      record { usable = 0 ∷ []; count = 1 },
      (nothing_bound, refl, refl, refl),
      (record { usable = 0 ∷ []; count = 1 }, (inl refl, refl), refl),
    ),
    refl,
  );
  iflets = refl;
  right = (inl refl, refl);
}

-- (rule (simp (Op.Neg x)) (if-let 2 x) (let ((y u8 2)) y))
abbrev with_let : TypedRule
with_let = record {
  root = 0;
  args = more_typed (typed_term 13 2 (more_typed (typed_bind 1 0 (typed_wildcard 1)) no_typed)) no_typed;
  iflets = record { pattern = typed_int 1 (pos 2); value = built_var 1 0 } ∷ [];
  right = built_let 1 (more_typed_bindings 1 1 (built_int 1 (pos 2)) no_typed_bindings) (built_var 1 1);
  variables = x ∷ y ∷ [];
  priority = pos 0;
  pos = here;
  name = None;
}

with_let_typed : IsTypedRule declared with_let
with_let_typed = record {
  root = _;
  flags = no_flags;
  known = refl;
  ruled = (None, refl);
  args = (
    (
      refl,
      record { term = _; known = refl; type = refl; usable = refl; whole = refl; args = ((refl, (x, refl, refl), refl), tt) },
    ),
    tt,
  );
  iflets = ((refl, (x, refl, refl)), (refl, (false, of_integer U8 refl (record { low = omega arith; high = omega arith }))), tt);
  right = (
    refl,
    ((y, refl, refl), (refl, (false, of_integer U8 refl (record { low = omega arith; high = omega arith }))), tt),
    (refl, (y, refl, refl)),
  );
  unordered = λ multi. refl;
}

with_let_scoped : KeepsScopes with_let
with_let_scoped = record {
  matched = record { usable = 0 ∷ []; count = 1 };
  met = record { usable = 0 ∷ []; count = 1 };
  args = (
    record { usable = 0 ∷ []; count = 1 },
    (record { usable = 0 ∷ []; count = 1 }, (nothing_bound, refl, refl, refl), refl),
    refl,
  );
  iflets = (1, record { usable = 0 ∷ []; count = 1 }, (inl refl, refl), refl, refl);
  right = (record { usable = 1 ∷ 0 ∷ []; count = 2 }, (refl, refl), (inl refl, refl));
}

-- a literal isn't of an enum's type
literal_of_enum : IsTypedPattern declared (x ∷ []) 13 (typed_int 1 (pos 2)) → ⊥
literal_of_enum h = omega (arith, h.0)

-- a variable can't be used before it is bound
unbound : (count : ℕ) → ExprUses (built_var 1 0) nothing_bound count → ⊥
unbound count h = h.0

-- nor outside the `let` that binds it
outside : (count : ℕ) → ExprUses (built_term 13 1 (more_built
    (built_let 1 (more_typed_bindings 0 1 (built_int 1 (pos 2)) no_typed_bindings) (built_var 1 0))
    (more_built (built_var 1 0) no_built))) nothing_bound count → ⊥
outside count h = h.2.1.0

-- the first variable has the number 0
first_number : (after : Scope) → PatternBinds (typed_bind 1 1 (typed_wildcard 1)) nothing_bound after → ⊥
first_number after h = let e = h.2 in let f = ap (λ (z : Scope). z.count) h.1 in omega (arith, e, f)
