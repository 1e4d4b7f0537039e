-- The number 2^128 - 1 is -1 at a primitive type, also as a field, and stays what it is at `u128`.
use Rattle.std.proofs.Common.{◌≡◌, ◌==◌, ℕ, [], ◌∷◌, Some, None, negsuc, refl, arith}
use Rattle.std.specs.Prelude.{codes, if◌then◌else◌, FitsSigned}
use Rattle.std.specs.Int.{w128}
use Rattle.std.proofs.lemmas.Int.{fits_signed_from_abs}
use Rattle.isle_syntax.specs.declared.lexer.Token.TheVariants.{Big as BigToken}
use Rattle.isle_types.specs.declared.types.IntType.TheVariants.{U128}
use Rattle.isle_rules.specs.Values.{ValueTree, int_tree, big_tree, data_tree, no_trees, more_trees}
use Rattle.isle_meaning.specs.Facts.{struct_shape}
use Rattle.isle_meaning.specs.ValueTypes.{ValueFacts, IsOfType, integer_kind, primitive_kind, data_kind}
use Rattle.isle_values.specs.Values.Settled.{settled, SpellTyped}

-- type 0 is primitive, 1 is `u128`, and 2 has the struct `Pair` with a field of each
abbrev facts : ValueFacts
facts = record {
  kind = λ ty. if ty == 0 then primitive_kind else (if ty == 1 then integer_kind U128 else data_kind);
  constant = λ name. None;
  data_named = λ name. Some (2, 0 ∷ 1 ∷ []);
  shape_named = λ name. Some struct_shape;
}

abbrev greatest : ℕ
greatest = 340282366920938463463374607431768211455

abbrev pair : ValueTree → ValueTree
pair first = data_tree (codes "Pair") (more_trees first (more_trees (big_tree greatest) no_trees))

at_primitive : settled facts (big_tree greatest) 0 ≡ int_tree (negsuc 0)
at_primitive = refl

at_unsigned : settled facts (big_tree greatest) 1 ≡ big_tree greatest
at_unsigned = refl

-- as a number from 2^127 on it isn't of a primitive type
never_big : IsOfType facts (big_tree greatest) 0 → ⊥
never_big h = let e = h.0 in cc

fields : settled facts (pair (big_tree greatest)) 2 ≡ pair (int_tree (negsuc 0))
fields = refl

-- -1 has 128 bits
one_fits : FitsSigned w128 (negsuc 0)
one_fits = fits_signed_from_abs w128 (negsuc 0) (omega arith)

typed : IsOfType facts (pair (int_tree (negsuc 0))) 2
typed = (0 ∷ 1 ∷ [], refl, (one_fits, ((refl, omega arith, omega arith), tt)))

read : SpellTyped facts (BigToken greatest ∷ []) (int_tree (negsuc 0)) 0
read = (big_tree greatest, (tt, refl), refl, one_fits)
