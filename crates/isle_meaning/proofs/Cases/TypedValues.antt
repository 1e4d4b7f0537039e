-- Worked cases: which values are of a type, at both ends of a range and one past.
use Rattle.std.proofs.Common.{arith, ◌==◌, [], ◌∷◌, pos, negsuc, Some, true, refl}
use Rattle.std.specs.Prelude.{codes, if◌then◌else◌}
use Rattle.std.specs.Int.{w128}
use Rattle.std.proofs.lemmas.Int.{fits_signed_from_abs}
use Rattle.isle_types.specs.declared.types.IntType.TheVariants.{U8, I8, U128}
use Rattle.isle_rules.specs.Values.{bool_tree, int_tree, big_tree, const_tree, opaque_tree, data_tree, no_trees, more_trees}
use Rattle.isle_meaning.specs.Facts.{variant_shape}
use Rattle.isle_meaning.specs.ValueTypes.{ValueFacts, IsOfType, AreOfTypes, truth_kind, integer_kind, primitive_kind, data_kind}

-- the types are: 0 `bool`, 1 `u8`, 2 `i8`, 3 `u128`, 4 primitive, 5 an enum with the variant (Op.Neg (a u8)); $X is of the type 4
abbrev facts : ValueFacts
facts = record {
  kind = λ ty. if ty == 0 then truth_kind else (if ty == 1 then integer_kind U8 else (if ty == 2 then integer_kind I8 else
      (if ty == 3 then integer_kind U128 else (if ty == 4 then primitive_kind else data_kind))));
  constant = λ name. Some 4;
  data_named = λ name. Some (5, 1 ∷ []);
  shape_named = λ name. Some (variant_shape 0);
}

truth : IsOfType facts (bool_tree true) 0
truth = refl

no_truth : IsOfType facts (bool_tree true) 1 → ⊥
no_truth h = cc

greatest : IsOfType facts (int_tree (pos 255)) 1
greatest = (record { low = omega arith; high = omega arith }, fits_signed_from_abs w128 (pos 255) (omega arith))

past : IsOfType facts (int_tree (pos 256)) 1 → ⊥
past h = let high = h.0.high in omega (arith, high)

below : IsOfType facts (int_tree (negsuc 0)) 1 → ⊥
below h = let low = h.0.low in omega (arith, low)

least_signed : IsOfType facts (int_tree (negsuc 127)) 2
least_signed = (record { low = omega arith; high = omega arith }, fits_signed_from_abs w128 (negsuc 127) (omega arith))

past_signed : IsOfType facts (int_tree (pos 128)) 2 → ⊥
past_signed h = let high = h.0.high in omega (arith, high)

-- 2^128 - 1 is of `u128`, 2^127 - 1 isn't such a number, and neither is one of a primitive type
greatest_unsigned : IsOfType facts (big_tree 340282366920938463463374607431768211455) 3
greatest_unsigned = (refl, omega arith, omega arith)

not_so_big : IsOfType facts (big_tree 170141183460469231731687303715884105727) 3 → ⊥
not_so_big h = let low = h.1 in omega (arith, low)

not_primitive : IsOfType facts (big_tree 340282366920938463463374607431768211455) 4 → ⊥
not_primitive h = let kind = h.0 in cc

greatest_primitive : IsOfType facts (int_tree (pos 170141183460469231731687303715884105727)) 4
greatest_primitive = fits_signed_from_abs w128 (pos 170141183460469231731687303715884105727) (omega arith)

constant : IsOfType facts (const_tree (codes "X")) 4
constant = (refl, tt)

-- v18446744073709551615, and one more
opaque_last : IsOfType facts (opaque_tree 18446744073709551615) 4
opaque_last = (refl, omega arith)

opaque_past : IsOfType facts (opaque_tree 18446744073709551616) 4 → ⊥
opaque_past h = let low = h.1 in omega (arith, low)

made : IsOfType facts (data_tree (codes "Op.Neg") (more_trees (int_tree (pos 255)) no_trees)) 5
made = (1 ∷ [], refl, (greatest, tt))

lacks_a_field : AreOfTypes facts no_trees (1 ∷ []) → ⊥
lacks_a_field h = h
