-- Tests by the values that pass them.
use Rattle.std.proofs.Common.{◌≡◌, ℕ, true, false, List, refl, sym, ap, ◌∙◌, arith, eqb-true}
use Rattle.isle_types.specs.declared.ids.Sym.{Sym}
use Rattle.isle_meaning.specs.Demands as meaning
use Rattle.isle_meaning.specs.Held.{Held, held_value, held_outputs, held_none, held_some, held_answers, Meets}
use Rattle.isle_meaning.specs.Values.{Values, no_values, more_values, count, bool_value, int_value, constant_value, opaque_value, made_variant, made_struct}
use Rattle.isle_blocks.specs.Rows.{IsInjective, test_of}
use Rattle.isle_blocks.specs.Trees.Compare.{meets}
use Rattle.isle_blocks.specs.declared.constraint.Constraint.{Constraint}
use Rattle.isle_blocks.specs.declared.constraint.Constraint.TheVariants as tests
use Rattle.isle_blocks.proofs.Rows.RowsInjective.{test-injective}
use Rattle.isle_blocks.proofs.Trees.Exact.{passed_meets}
use Rattle.isle_coverage.specs.Inside.Tests.{is_single_test, plain_test}

-- A test is passed by the same values whatever its type is called.
pub plain_meets : (name : Sym → List ℕ) (c : Constraint) (x : Held) → meets name (plain_test c) x ≡ meets name c x
plain_meets name (tests.Variant ty k n) x = refl
plain_meets name (tests.Struct ty n) x = refl
plain_meets name (tests.ConstPrim val) x = refl
plain_meets name tests.Some x = refl
plain_meets name (tests.ConstBool val ty) (held_value (bool_value b)) = refl
plain_meets name (tests.ConstBool val ty) (held_value (int_value n)) = refl
plain_meets name (tests.ConstBool val ty) (held_value (constant_value n)) = refl
plain_meets name (tests.ConstBool val ty) (held_value (opaque_value n)) = refl
plain_meets name (tests.ConstBool val ty) (held_value (made_variant u k vs)) = refl
plain_meets name (tests.ConstBool val ty) (held_value (made_struct u vs)) = refl
plain_meets name (tests.ConstBool val ty) (held_outputs vs) = refl
plain_meets name (tests.ConstBool val ty) held_none = refl
plain_meets name (tests.ConstBool val ty) (held_some h) = refl
plain_meets name (tests.ConstBool val ty) (held_answers l) = refl
plain_meets name (tests.ConstInt val ty) (held_value (bool_value b)) = refl
plain_meets name (tests.ConstInt val ty) (held_value (int_value n)) = refl
plain_meets name (tests.ConstInt val ty) (held_value (constant_value n)) = refl
plain_meets name (tests.ConstInt val ty) (held_value (opaque_value n)) = refl
plain_meets name (tests.ConstInt val ty) (held_value (made_variant u k vs)) = refl
plain_meets name (tests.ConstInt val ty) (held_value (made_struct u vs)) = refl
plain_meets name (tests.ConstInt val ty) (held_outputs vs) = refl
plain_meets name (tests.ConstInt val ty) held_none = refl
plain_meets name (tests.ConstInt val ty) (held_some h) = refl
plain_meets name (tests.ConstInt val ty) (held_answers l) = refl

-- the test that tells what is held
abbrev told_by : Held → meaning.Constraint
told_by (held_value (bool_value b)) = meaning.bool_constraint b 0
told_by (held_value (int_value n)) = meaning.int_constraint n 0
told_by (held_value (constant_value n)) = meaning.prim_constraint n
told_by (held_value (opaque_value n)) = meaning.some_constraint
told_by (held_value (made_variant ty k vs)) = meaning.variant_constraint ty k (count vs)
told_by (held_value (made_struct ty vs)) = meaning.struct_constraint ty (count vs)
told_by (held_outputs vs) = meaning.some_constraint
told_by held_none = meaning.some_constraint
told_by (held_some h) = meaning.some_constraint
told_by (held_answers l) = meaning.some_constraint

-- the type of a number's or truth value's test
abbrev type_in : Constraint → ℕ
type_in (tests.Variant ty k n) = ty.0
type_in (tests.Struct ty n) = ty.0
type_in (tests.ConstBool val ty) = ty.0
type_in (tests.ConstInt val ty) = ty.0
type_in (tests.ConstPrim val) = 0
type_in tests.Some = 0

-- a test that is passed is the one that tells what is held
told : (name : Sym → List ℕ) (c : Constraint) (x : Held) → plain_test c ≡ c → Meets (test_of name c) x → test_of name c ≡ told_by x
told name (tests.Variant ty k n) x plain (vs, is, many) = ap (meaning.variant_constraint ty.0 k.0) (sym many) ∙ sym (ap told_by is)
told name (tests.Struct ty n) x plain (vs, is, many) = ap (meaning.struct_constraint ty.0) (sym many) ∙ sym (ap told_by is)
told name (tests.ConstBool val ty) x plain is = ap (meaning.bool_constraint val) (sym (ap type_in plain)) ∙ sym (ap told_by is)
told name (tests.ConstInt val ty) x plain is = ap (meaning.int_constraint val) (sym (ap type_in plain)) ∙ sym (ap told_by is)
told name (tests.ConstPrim val) x plain is = sym (ap told_by is)
told name tests.Some x plain (h, is) = sym (ap told_by is)

-- Two tests that are passed by one are one.
pub plain_one : (name : Sym → List ℕ) → IsInjective name → (c d : Constraint) (x : Held) → plain_test c ≡ c → plain_test d ≡ d
    → meets name c x ≡ true → meets name d x ≡ true → c ≡ d
plain_one name injective c d x pc pd p q =
    test-injective name injective c d (told name c x pc (passed_meets name c x p) ∙ sym (told name d x pd (passed_meets name d x q)))

-- no values are none
none_counted : (vs : Values) → count vs ≡ 0 → vs ≡ no_values
none_counted no_values e = refl
none_counted (more_values v vs) e = absurd (omega (arith, e))

-- A test that only one value passes is passed by one.
pub single_one : (name : Sym → List ℕ) (c : Constraint) (x y : Held) → is_single_test c ≡ true → meets name c x ≡ true → meets name c y ≡ true → x ≡ y
single_one name c x y e p q = go c e (passed_meets name c x p) (passed_meets name c y q)
  where
    go : (c : Constraint) → is_single_test c ≡ true → Meets (test_of name c) x → Meets (test_of name c) y → x ≡ y
    go (tests.Variant ty k n) e (vs, is, many) (ws, same, other) =
        let none = eqb-true n.0 0 e in
        is ∙ ap (λ (l : Values). held_value (made_variant ty.0 k.0 l))
        (none_counted vs (many ∙ none) ∙ sym (none_counted ws (other ∙ none))) ∙ sym same
    go (tests.Struct ty n) e (vs, is, many) (ws, same, other) =
        let none = eqb-true n.0 0 e in
        is ∙ ap (λ (l : Values). held_value (made_struct ty.0 l)) (none_counted vs (many ∙ none) ∙ sym (none_counted ws (other ∙ none))) ∙ sym same
    go (tests.ConstBool val ty) e is same = is ∙ sym same
    go (tests.ConstInt val ty) e is same = is ∙ sym same
    go (tests.ConstPrim val) e is same = is ∙ sym same
    go tests.Some e is same = absurd (let f : false ≡ true = e in cc)
