-- Whether sites hold the same, and whether what is held passes a test of the code.
use Rattle.std.specs.Prelude.{◌&&◌, ◌==◌, ℕ, Bool, true, false, List, [], ◌∷◌}
use Rattle.std.specs.Ordering.{int_eq}
use Rattle.isle_types.specs.declared.ids.Sym.{Sym}
use Rattle.isle_meaning.specs.Values.{Value, bool_value, int_value, constant_value, opaque_value, made_variant, made_struct, Values}
use Rattle.isle_meaning.specs.Values.{no_values, more_values, count}
use Rattle.isle_meaning.specs.Held.{Held, held_value, held_outputs, held_none, held_some, held_answers}
use Rattle.isle_blocks.specs.declared.constraint.Constraint.{Constraint}
use Rattle.isle_blocks.specs.declared.constraint.Constraint.TheVariants as tests

-- whether two names are the same
abbrev pub same_name : List ℕ → List ℕ → Bool
same_name [] [] = true
same_name [] (y ∷ ys) = false
same_name (x ∷ xs) [] = false
same_name (x ∷ xs) (y ∷ ys) = (x == y) && same_name xs ys

-- whether two truth values are the same
abbrev pub same_bool : Bool → Bool → Bool
same_bool true true = true
same_bool true false = false
same_bool false true = false
same_bool false false = true

abbrev mutual
  -- whether two values are the same
  pub same_value : Value → Value → Bool
  same_value (bool_value a) (bool_value b) = same_bool a b
  same_value (int_value a) (int_value b) = int_eq a b
  same_value (constant_value a) (constant_value b) = same_name a b
  same_value (opaque_value a) (opaque_value b) = a == b
  same_value (made_variant ty k xs) (made_variant uy j ys) = (ty == uy) && ((k == j) && same_values xs ys)
  same_value (made_struct ty xs) (made_struct uy ys) = (ty == uy) && same_values xs ys
  same_value x y = false

  -- whether two lists of values are the same
  pub same_values : Values → Values → Bool
  same_values no_values no_values = true
  same_values no_values (more_values y ys) = false
  same_values (more_values x xs) no_values = false
  same_values (more_values x xs) (more_values y ys) = same_value x y && same_values xs ys

-- whether two lists of answers are the same
abbrev pub same_answers : List Values → List Values → Bool
same_answers [] [] = true
same_answers [] (y ∷ ys) = false
same_answers (x ∷ xs) [] = false
same_answers (x ∷ xs) (y ∷ ys) = same_values x y && same_answers xs ys

-- whether two sites hold the same
abbrev pub same_held : Held → Held → Bool
same_held (held_value x) (held_value y) = same_value x y
same_held (held_outputs xs) (held_outputs ys) = same_values xs ys
same_held held_none held_none = true
same_held (held_some x) (held_some y) = same_held x y
same_held (held_answers xs) (held_answers ys) = same_answers xs ys
same_held x y = false

-- a value passes a test of a plain one
abbrev pub value_meets : (Sym → List ℕ) → Constraint → Value → Bool
value_meets name (tests.Variant ty variant fields) (made_variant uy k vs) = (uy == ty.0) && ((k == variant.0) && (count vs == fields.0))
value_meets name (tests.Struct ty fields) (made_struct uy vs) = (uy == ty.0) && (count vs == fields.0)
value_meets name (tests.ConstBool val ty) (bool_value b) = same_bool b val
value_meets name (tests.ConstInt val ty) (int_value n) = int_eq n val
value_meets name (tests.ConstPrim val) (constant_value n) = same_name n (name val)
value_meets name c v = false

-- something in an option passes the test of options alone
abbrev pub some_meets : Constraint → Bool
some_meets (tests.Variant ty variant fields) = false
some_meets (tests.Struct ty fields) = false
some_meets (tests.ConstBool val ty) = false
some_meets (tests.ConstInt val ty) = false
some_meets (tests.ConstPrim val) = false
some_meets tests.Some = true

-- what is held passes a test
abbrev pub meets : (Sym → List ℕ) → Constraint → Held → Bool
meets name c (held_value v) = value_meets name c v
meets name c (held_outputs vs) = false
meets name c held_none = false
meets name c (held_some h) = some_meets c
meets name c (held_answers l) = false
