-- Formatted texts spell definitions that differ in positions alone.
use Rattle.std.proofs.Common.{◌≡◌, ℕ, suc, List, [], ◌∷◌, ◌++◌, map, refl, sym, ◌∙◌, ap}
use Rattle.isle_ast.specs.declared.ast.Def.{Def}
use Rattle.isle_ast.specs.Positions.Files.{SourceFile}
use Rattle.isle_ast.specs.Trees.WithoutPos.{def_without_pos}
use Rattle.isle_syntax.proofs.Productions.OneReading.{whole_reading, spells_of}
use Rattle.isle_layout.proofs.ReadsBack.Prints.{print_reads_back}
use Rattle.isle_layout.proofs.ReadsBack.Formatted.{spelt_is_writable}
use Rattle.isle_program.specs.Compiled.{AreSpelt}
use Rattle.isle_meaning.specs.Laws.Spelling.{AreAlike}
use Rattle.isle_run.specs.Laws.Formatting.{AreFormatted, FormattedTextsAreAlike}
use Rattle.isle_program.proofs.Compiling.OneAcceptance.{spelt_once}
use Rattle.isle_meaning.proofs.Spelling.Lists.{map_joined}

-- texts whose numbers count from one on
formatted_from : (first width : ℕ) (files others : List SourceFile) (defs : List Def) → AreFormatted first width files others
    → AreSpelt first files defs → (those : List Def) × AreSpelt first others those × AreAlike defs those
formatted_from first width [] [] defs h spelt = ([], refl, ap (map def_without_pos) spelt)
formatted_from first width [] (o ∷ others) defs h spelt = absurd h
formatted_from first width (f ∷ files) [] defs h spelt = absurd h
formatted_from first width (f ∷ files) (o ∷ others) defs h spelt =
    let format = h.1 in
    let whole = whole_reading first o.text in
    let back = (print_reads_back width o.text (format.0) (h.0) (format.2)).1 (spelt_is_writable first f.text (format.0) (format.1))
    whole.0 whole.1 in
    let one : format.0 ≡ spelt.0 = spelt_once first f.text (spelt.0) (format.0) (spelt.2) (format.1) in
    let rest = formatted_from (suc first) width files others (spelt.1) (h.2) (spelt.3) in
    let these = sym (back.2 ∙ ap (map def_without_pos) one) in
    let those = rest.2 in
    let joined : map def_without_pos (spelt.0) ++ map def_without_pos (spelt.1) ≡ map def_without_pos (back.0) ++ map def_without_pos (rest.0) =
    (λ i. these i ++ those i) in (
      back.0 ++ rest.0,
      (back.0, rest.0, spells_of first o.text whole.0 (back.0) whole.1 whole.2 (back.1), rest.1, refl),
      ap (map def_without_pos) (spelt.4) ∙ sym (map_joined def_without_pos (spelt.0) (spelt.1)) ∙ joined
          ∙ map_joined def_without_pos (back.0) (rest.0),
    )

pub formatted_alike : FormattedTextsAreAlike
formatted_alike width files others defs h spelt = formatted_from 0 width files others defs h spelt
