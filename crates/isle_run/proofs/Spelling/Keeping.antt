-- Files that are laid out with their comments.
use Rattle.std.proofs.Common.{◌≡◌, ℕ, suc, List, [], ◌∷◌, ◌++◌, map, refl, sym, ◌∙◌, ap, ap₂, subst₂}
use Rattle.isle_ast.specs.declared.ast.Def.{Def}
use Rattle.isle_ast.specs.Positions.Files.{SourceFile}
use Rattle.isle_ast.specs.Trees.WithoutPos.{def_without_pos}
use Rattle.isle_syntax.specs.declared.lexer.Token.{Token}
use Rattle.isle_syntax.proofs.Productions.OneReading.{whole_reading, spells_of}
use Rattle.isle_layout.specs.Keeping.TokenValues.{HasTokens}
use Rattle.isle_layout.proofs.Keeping.ReadAgain.{read_again}
use Rattle.isle_layout.proofs.Keeping.SameTokens.{same_tokens}
use Rattle.isle_meaning.specs.Laws.Spelling.{AreAlike}
use Rattle.isle_meaning.proofs.Spelling.Lists.{map_joined}
use Rattle.isle_meaning.proofs.Spelling.Meanings.{alike_means}
use Rattle.isle_meaning.proofs.Spelling.Programs.{alike_back}
use Rattle.isle_program.specs.Compiled.{AreSpelt}
use Rattle.isle_program.specs.Meanings.{checked}
use Rattle.isle_program.proofs.Compiling.OneAcceptance.{files_spelt_once}
use Rattle.isle_run.specs.Laws.Keeping.{AreKept, KeptTextsAreAlike, KeptTextsAreAcceptedAlike, KeptProgramsMeanTheSame}
use Rattle.isle_run.proofs.Spelling.Whole.{accepted_alike, made_alike}

-- what both spell, where numbers count from one on
kept_from : (first width : ℕ) (files others : List SourceFile) → AreKept first width files others
    → (defs those : List Def) × AreSpelt first files defs × AreSpelt first others those × AreAlike defs those
kept_from first width [] [] kept = ([], [], refl, refl, refl)
kept_from first width [] (o ∷ others) kept = absurd kept
kept_from first width (f ∷ files) [] kept = absurd kept
kept_from first width (f ∷ files) (o ∷ others) kept =
    let (own, spells, is) = kept.0 in
    let tokens : (ts : List Token) → HasTokens f.text ts → HasTokens o.text ts =
    λ ts has. rw is (same_tokens width ts has) in
    let whole = whole_reading first o.text in
    let back = read_again first f.text o.text own tokens spells whole.0 whole.1 in
    let rest = kept_from (suc first) width files others kept.1 in (
      own ++ rest.0,
      back.0 ++ rest.1,
      (own, rest.0, spells, rest.2, refl),
      (back.0, rest.1, spells_of first o.text whole.0 back.0 whole.1 whole.2 back.1, rest.3, refl),
      sym (map_joined def_without_pos own rest.0) ∙ ap₂ (λ (a b : List Def). a ++ b) (sym back.2) rest.4
          ∙ map_joined def_without_pos back.0 rest.1,
    )

pub kept_alike : KeptTextsAreAlike
kept_alike width files others kept = kept_from 0 width files others kept

pub kept_accepted : KeptTextsAreAcceptedAlike
kept_accepted width files others kept =
    let (defs, those, spelt, also, alike) = kept_alike width files others kept in
    (accepted_alike files others defs those spelt also alike, accepted_alike others files those defs also spelt (sym alike))

pub kept_means : KeptProgramsMeanTheSame
kept_means width files others program other kept is also w n t args trace answer =
    let (defs, those, spelt, there, alike) = kept_alike width files others kept in
    let same : AreAlike is.defs also.defs = subst₂ AreAlike (files_spelt_once 0 files is.defs defs is.spelt spelt)
    (files_spelt_once 0 others also.defs those also.spelt there) alike in
    let programs = made_alike files others program other is also same in (
      alike_means (checked program) (checked other) programs w n t args trace answer,
      alike_means (checked other) (checked program) (alike_back (checked program) (checked other) programs) w n t args trace answer,
    )
