-- Values of types are printed to texts that read back as them.
use Rattle.std.proofs.Common.{◌≡◌, ℕ, List, [], ◌∷◌, refl, ◌∙◌, ap}
use Rattle.std.specs.Fmt.{decimal}
use Rattle.isle_syntax.specs.declared.lexer.Token.{Token}
use Rattle.isle_rules.specs.Values.{ValueTree, ValueTrees, bool_tree, int_tree, big_tree, const_tree, opaque_tree, data_tree, no_trees, more_trees}
use Rattle.isle_meaning.specs.ValueTypes.{ValueFacts, IsOfType, AreOfTypes}
use Rattle.isle_values.specs.Values.Held.{IsHeld, AreHeld}
use Rattle.isle_values.specs.Values.Settled.{settled_number, settled, settled_all, field_types, SpellTyped}
use Rattle.isle_values.specs.Values.TextTokens.{AreTokensOf}
use Rattle.isle_values.specs.Values.Text.{value_text}
use Rattle.isle_values.specs.Values.Tokens.{tokens_of, IsSpellable, AreSpellable}
use Rattle.isle_values.proofs.GroundValues.Printed.Symbols.{ident_is_symbol, constant_is_symbol, symbol_before}
use Rattle.isle_values.proofs.GroundValues.Printed.Numbers.{signed_before, large_before, opaque_is_symbol}
use Rattle.isle_values.proofs.GroundValues.Printed.Texts.{HasAtoms, HaveAtoms, text_tokens}

module _ (facts : ValueFacts) where
  mutual
    -- a value of a type stays as it is when it is read at the type
    pub typed_stays : (v : ValueTree) (ty : ℕ) → IsOfType facts v ty → settled facts v ty ≡ v
    typed_stays (bool_tree b) ty is = refl
    typed_stays (int_tree n) ty is = refl
    typed_stays (big_tree n) ty is = ap (settled_number n) is.0
    typed_stays (const_tree name) ty is = refl
    typed_stays (opaque_tree n) ty is = refl
    typed_stays (data_tree name vs) ty (types, is, of) =
        ap (λ o. data_tree name (settled_all facts vs (field_types o))) is ∙ ap (data_tree name) (all_stay vs types of)

    all_stay : (vs : ValueTrees) (types : List ℕ) → AreOfTypes facts vs types → settled_all facts vs types ≡ vs
    all_stay no_trees types of = refl
    all_stay (more_trees v vs) [] of = refl
    all_stay (more_trees v vs) (ty ∷ types) of =
        let first = typed_stays v ty of.0 in let rest = all_stay vs types of.1 in λ i. more_trees (first i) (rest i)

  mutual
    has_atoms : (v : ValueTree) (ty : ℕ) → IsHeld v → IsOfType facts v ty → IsSpellable v → HasAtoms v
    has_atoms (bool_tree b) ty held is spellable = tt
    has_atoms (int_tree n) ty held is spellable = λ rest ends. signed_before n rest held ends
    has_atoms (big_tree n) ty held is spellable = λ rest ends. large_before n rest is.1 is.2 ends
    has_atoms (const_tree name) ty held is spellable = λ rest ends. symbol_before (36 ∷ name) rest (constant_is_symbol name held spellable) ends
    has_atoms (opaque_tree n) ty held is spellable = λ rest ends. symbol_before (118 ∷ decimal n) rest (opaque_is_symbol n is.1) ends
    has_atoms (data_tree name vs) ty (named, held) (types, is, of) (ident, spellable) =
        (λ rest ends. symbol_before name rest (ident_is_symbol name named ident) ends, have_atoms vs types held of spellable)

    have_atoms : (vs : ValueTrees) (types : List ℕ) → AreHeld vs → AreOfTypes facts vs types → AreSpellable vs → HaveAtoms vs
    have_atoms no_trees types held of spellable = tt
    have_atoms (more_trees v vs) [] held of spellable = absurd of
    have_atoms (more_trees v vs) (ty ∷ types) held of spellable =
        (has_atoms v ty held.0 of.0 spellable.0, have_atoms vs types held.1 of.1 spellable.1)

  -- a value of a type is printed to a text that reads back as it
  pub reads_back : (v : ValueTree) (ty : ℕ) → IsHeld v → IsOfType facts v ty → IsSpellable v
      → (tokens : List Token) × AreTokensOf (value_text v) tokens × SpellTyped facts tokens v ty
  reads_back v ty held is spellable =
      (tokens_of v, text_tokens v (has_atoms v ty held is spellable), (v, (spellable, refl), typed_stays v ty is, is))
