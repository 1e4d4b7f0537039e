-- Tests and what is held are compared exactly.
use Rattle.std.proofs.Common.{◌≡◌, ℕ, Bool, true, false, List, [], ◌∷◌, refl, ap, ◌∙◌, eqb-true, eq-eqb, ◌==◌, ◌&&◌}
use Rattle.std.proofs.lemmas.Bool.Decides.{Decides-int_eq}
use Rattle.isle_types.specs.declared.ids.Sym.{Sym}
use Rattle.isle_meaning.specs.Values.{Value, bool_value, int_value, constant_value, opaque_value, made_variant, made_struct, Values}
use Rattle.isle_meaning.specs.Values.{no_values, more_values, count}
use Rattle.isle_meaning.specs.Held.{Held, held_value, held_outputs, held_none, held_some, held_answers, Meets as MeetsHeld}
use Rattle.isle_blocks.specs.declared.constraint.Constraint.{Constraint}
use Rattle.isle_blocks.specs.declared.constraint.Constraint.TheVariants as tests
use Rattle.isle_blocks.specs.Rows.{test_of}
use Rattle.isle_blocks.proofs.EqualTests.{constraint-decides}
use Rattle.isle_trees.specs.Premises.{AreExact}
use Rattle.isle_trees.proofs.Basics.{and_both, both_and}
use Rattle.isle_blocks.specs.Trees.Compare.{same_name, same_bool, same_value, same_values, same_answers, same_held, meets}
use Rattle.isle_blocks.specs.Trees.View.{tests_by}

-- truth values that are the same are one
bool_sound : (a b : Bool) → same_bool a b ≡ true → a ≡ b
bool_sound true true e = refl
bool_sound true false e = absurd cc
bool_sound false true e = absurd cc
bool_sound false false e = refl

-- each is the same as itself
bool_self : (a : Bool) → same_bool a a ≡ true
bool_self true = refl
bool_self false = refl

-- so are names
name_sound : (xs ys : List ℕ) → same_name xs ys ≡ true → xs ≡ ys
name_sound [] [] e = refl
name_sound [] (y ∷ ys) e = absurd cc
name_sound (x ∷ xs) [] e = absurd cc
name_sound (x ∷ xs) (y ∷ ys) e =
    let h = and_both (x == y) (same_name xs ys) e in let p : x ≡ y = eqb-true x y (h.0) in let q = name_sound xs ys (h.1) in cc

-- each is the same as itself
name_self : (xs : List ℕ) → same_name xs xs ≡ true
name_self [] = refl
name_self (x ∷ xs) = both_and (x == x) (same_name xs xs) (eq-eqb x x refl) (name_self xs)

mutual
  value_sound : (x y : Value) → same_value x y ≡ true → x ≡ y
  value_sound (bool_value a) (bool_value b) e = ap bool_value (bool_sound a b e)
  value_sound (int_value a) (int_value b) e = ap int_value ((Decides-int_eq a b).0 e)
  value_sound (constant_value a) (constant_value b) e = ap constant_value (name_sound a b e)
  value_sound (opaque_value a) (opaque_value b) e = ap opaque_value (eqb-true a b e)
  value_sound (made_variant ty k xs) (made_variant uy j ys) e =
      let h = and_both (ty == uy) ((k == j) && same_values xs ys) e in
      let g = and_both (k == j) (same_values xs ys) (h.1) in
      let p : ty ≡ uy = eqb-true ty uy (h.0) in let q : k ≡ j = eqb-true k j (g.0) in let r = values_sound xs ys (g.1) in cc
  value_sound (made_struct ty xs) (made_struct uy ys) e =
      let h = and_both (ty == uy) (same_values xs ys) e in
      let p : ty ≡ uy = eqb-true ty uy (h.0) in let r = values_sound xs ys (h.1) in cc
  value_sound x y e = absurd cc

  -- so are lists of values
  values_sound : (xs ys : Values) → same_values xs ys ≡ true → xs ≡ ys
  values_sound no_values no_values e = refl
  values_sound no_values (more_values y ys) e = absurd cc
  values_sound (more_values x xs) no_values e = absurd cc
  values_sound (more_values x xs) (more_values y ys) e =
      let h = and_both (same_value x y) (same_values xs ys) e in let p = value_sound x y (h.0) in let q = values_sound xs ys (h.1) in cc

mutual
  value_self : (x : Value) → same_value x x ≡ true
  value_self (bool_value a) = bool_self a
  value_self (int_value a) = (Decides-int_eq a a).1 refl
  value_self (constant_value a) = name_self a
  value_self (opaque_value a) = eq-eqb a a refl
  value_self (made_variant ty k xs) =
      both_and (ty == ty) ((k == k) && same_values xs xs) (eq-eqb ty ty refl)
      (both_and (k == k) (same_values xs xs) (eq-eqb k k refl) (values_self xs))
  value_self (made_struct ty xs) = both_and (ty == ty) (same_values xs xs) (eq-eqb ty ty refl) (values_self xs)

  -- so is each list
  values_self : (xs : Values) → same_values xs xs ≡ true
  values_self no_values = refl
  values_self (more_values x xs) = both_and (same_value x x) (same_values xs xs) (value_self x) (values_self xs)

-- so are the answers of multi calls
answers_sound : (xs ys : List Values) → same_answers xs ys ≡ true → xs ≡ ys
answers_sound [] [] e = refl
answers_sound [] (y ∷ ys) e = absurd cc
answers_sound (x ∷ xs) [] e = absurd cc
answers_sound (x ∷ xs) (y ∷ ys) e =
    let h = and_both (same_values x y) (same_answers xs ys) e in let p = values_sound x y (h.0) in let q = answers_sound xs ys (h.1) in cc

-- each are the same as themselves
answers_self : (xs : List Values) → same_answers xs xs ≡ true
answers_self [] = refl
answers_self (x ∷ xs) = both_and (same_values x x) (same_answers xs xs) (values_self x) (answers_self xs)

-- What is held is one where it is the same.
pub held_sound : (x y : Held) → same_held x y ≡ true → x ≡ y
held_sound (held_value x) (held_value y) e = ap held_value (value_sound x y e)
held_sound (held_outputs x) (held_outputs y) e = ap held_outputs (values_sound x y e)
held_sound held_none held_none e = refl
held_sound (held_some x) (held_some y) e = ap held_some (held_sound x y e)
held_sound (held_answers x) (held_answers y) e = ap held_answers (answers_sound x y e)
held_sound x y e = absurd cc

-- Each is the same as itself.
pub held_self : (x : Held) → same_held x x ≡ true
held_self (held_value x) = value_self x
held_self (held_outputs x) = values_self x
held_self held_none = refl
held_self (held_some x) = held_self x
held_self (held_answers x) = answers_self x

-- Tests and what is held are compared exactly.
pub are_exact : (name : Sym → List ℕ) → AreExact (tests_by name)
are_exact name = record {
  same = λ c d e. (constraint-decides c d).0 e;
  same_self = λ c. (constraint-decides c c).1 refl;
  alike = held_sound;
  alike_self = held_self;
}

-- what passes a test meets the constraint that it is
pub passed_meets : (name : Sym → List ℕ) (c : Constraint) (h : Held) → meets name c h ≡ true → MeetsHeld (test_of name c) h
passed_meets name (tests.Variant ty variant fields) (held_value (made_variant uy k vs)) e =
    let h = and_both (uy == ty.0) ((k == variant.0) && (count vs == fields.0)) e in
    let g = and_both (k == variant.0) (count vs == fields.0) (h.1) in
    let p : uy ≡ ty.0 = eqb-true uy ty.0 (h.0) in let q : k ≡ variant.0 = eqb-true k variant.0 (g.0) in
    (vs, cc, eqb-true (count vs) fields.0 (g.1))
passed_meets name (tests.Struct ty fields) (held_value (made_struct uy vs)) e =
    let h = and_both (uy == ty.0) (count vs == fields.0) e in
    let p : uy ≡ ty.0 = eqb-true uy ty.0 (h.0) in (vs, cc, eqb-true (count vs) fields.0 (h.1))
passed_meets name (tests.ConstBool val ty) (held_value (bool_value b)) e = let p = bool_sound b val e in cc
passed_meets name (tests.ConstInt val ty) (held_value (int_value n)) e = let p = (Decides-int_eq n val).0 e in cc
passed_meets name (tests.ConstPrim val) (held_value (constant_value n)) e = let p = name_sound n (name val) e in cc
passed_meets name tests.Some (held_some h) e = (h, refl)
passed_meets name c h e = absurd cc

-- and the other way round
pub met_passes : (name : Sym → List ℕ) (c : Constraint) (h : Held) → MeetsHeld (test_of name c) h → meets name c h ≡ true
met_passes name (tests.Variant ty variant fields) h (vs, p, q) =
    ap (meets name (tests.Variant ty variant fields)) p
    ∙ both_and (ty.0 == ty.0) ((variant.0 == variant.0) && (count vs == fields.0)) (eq-eqb ty.0 ty.0 refl)
    (both_and (variant.0 == variant.0) (count vs == fields.0) (eq-eqb variant.0 variant.0 refl) (eq-eqb (count vs) fields.0 q))
met_passes name (tests.Struct ty fields) h (vs, p, q) =
    ap (meets name (tests.Struct ty fields)) p
    ∙ both_and (ty.0 == ty.0) (count vs == fields.0) (eq-eqb ty.0 ty.0 refl) (eq-eqb (count vs) fields.0 q)
met_passes name (tests.ConstBool val ty) h p = ap (meets name (tests.ConstBool val ty)) p ∙ bool_self val
met_passes name (tests.ConstInt val ty) h p = ap (meets name (tests.ConstInt val ty)) p ∙ (Decides-int_eq val val).1 refl
met_passes name (tests.ConstPrim val) h p = ap (meets name (tests.ConstPrim val)) p ∙ name_self (name val)
met_passes name tests.Some h (x, p) = ap (meets name tests.Some) p
