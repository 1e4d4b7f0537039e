-- Worked cases: how `fmt --keep --write` ends, by which files are put in their place.
use Rattle.std.proofs.Common.{◌≡◌, ◌∷◌, ◌++◌, ◌∙◌, ℕ, List, [], Option, Some, None, Err, refl, sym, ap, inl, inr, subst, codes, true}
use Rattle.std.specs.Fmt.{char_count}
use Rattle.isle_ast.specs.Positions.Files.{SourceFile}
use Rattle.isle_ast.specs.declared.ast.Def.{Def}
use Rattle.isle_layout.specs.Keeping.LaidOut.{laid_out}
use Rattle.isle_layout.specs.Keeping.Pieces.{pieces_from}
use Rattle.isle_syntax.specs.Grammar.Verdict.{Spells}
use Rattle.isle_syntax.specs.Tokens.Gaps.{after_run}
use Rattle.std.specs.declared.io.ErrorKind.TheVariants as kind
use Rattle.islec.specs.Formatting.{EndsFmt, HavePrints, IsFormatted, PlacesUpTo}
use Rattle.islec.specs.Outputs.{changed_of}
use Rattle.islec.specs.declared.format.Output.TheVariants.{Places}
use Rattle.islec.specs.declared.format.Printing.{Printing}
use Rattle.islec.specs.declared.serve.ServeFault.TheVariants.{Write, Memory}
use Rattle.islec.specs.declared.status.Status.TheVariants as status

-- files are laid out with their comments, and put in their place
abbrev written : Printing
written = record { width = 80; keep = true; output = Places }

abbrev file : List ℕ → List ℕ → SourceFile
file name text = record { name = name; text = text }

-- a file that isn't its print, and one that is
abbrev both : List SourceFile
both = file (codes "a") (codes "(attr  b)") ∷ file (codes "c") (codes "(attr b)\n") ∷ []

abbrev prints_of_both : List (List ℕ)
prints_of_both = codes "(attr b)\n" ∷ codes "(attr b)\n" ∷ []

-- what is put in place of them
abbrev changed : List SourceFile
changed = file (codes "a") (codes "(attr b)\n") ∷ []

a_laid_out : laid_out 80 (codes "(attr  b)") ≡ codes "(attr b)\n"
unfolding pieces_from after_run char_count
a_laid_out = refl

c_laid_out : laid_out 80 (codes "(attr b)\n") ≡ codes "(attr b)\n"
unfolding pieces_from after_run char_count
c_laid_out = refl

-- they have no other prints
prints_are : (prints : List (List ℕ)) → HavePrints written both prints → prints ≡ prints_of_both
prints_are prints (first, others, is, (defs, spelt, laid), (second, none, also, (more, spelt_too, laid_too), ended)) =
    is ∙ ap (λ (print : List ℕ). print ∷ others) (laid ∙ a_laid_out)
    ∙ ap (λ (rest : List (List ℕ)). codes "(attr b)\n" ∷ rest)
    (also ∙ ap (λ (print : List ℕ). print ∷ none) (laid_too ∙ c_laid_out)
    ∙ ap (λ (rest : List (List ℕ)). codes "(attr b)\n" ∷ rest) ended)

-- so one file changes
changed_is : (prints : List (List ℕ)) → HavePrints written both prints → changed_of both prints ≡ changed
changed_is prints have = ap (changed_of both) (prints_are prints have)

-- ---- with status 0 the files that change are put in their place, and no others

nothing_put_is_not_well : (old new : Option (List ℕ)) → EndsFmt written both old new (Some []) (Some []) status.AllWell → ⊥
nothing_put_is_not_well old new (inl told) = told.0.0 refl
nothing_put_is_not_well old new (inr (is, prints, have, put, same)) = let wrong = put ∙ changed_is prints have in absurd cc

all_put_is_not_well : (old new : Option (List ℕ))
    → EndsFmt written both old new (Some []) (Some (changed ++ file (codes "c") (codes "(attr b)\n") ∷ [])) status.AllWell → ⊥
all_put_is_not_well old new (inl told) = told.0.0 refl
all_put_is_not_well old new (inr (is, prints, have, put, same)) = let wrong = put ∙ changed_is prints have in absurd cc

told_is_not_well : EndsFmt written both (Some []) (Some (codes "a\n")) (Some []) (Some changed) status.AllWell → ⊥
told_is_not_well (inl told) = told.0.0 refl
told_is_not_well (inr (is, prints, have, put, same)) = absurd cc

-- where the texts are spelt
module _ (in_a in_c : List Def) (a_spelt : Spells 0 (codes "(attr  b)") in_a) (c_spelt : Spells 1 (codes "(attr b)\n") in_c) where
  have_prints : HavePrints written both prints_of_both
  have_prints = (
    codes "(attr b)\n",
    codes "(attr b)\n" ∷ [],
    refl,
    (in_a, a_spelt, sym a_laid_out),
    (
      codes "(attr b)\n",
      [],
      refl,
      (in_c, c_spelt, sym c_laid_out),
      refl,
    ),
  )

  changed_put_is_well : EndsFmt written both (Some []) (Some []) (Some []) (Some changed) status.AllWell
  changed_put_is_well = inr (refl, prints_of_both, have_prints, refl, refl)

  -- behind others that were put before
  put_behind_others : EndsFmt written both (Some []) (Some []) (Some changed) (Some (changed ++ changed)) status.AllWell
  put_behind_others = inr (refl, prints_of_both, have_prints, refl, refl)

  -- the first can't be written
  first_is_not_written : IsFormatted written both (Some []) (Some (codes "cannot")) (Some []) (Some []) (Err Write)
  first_is_not_written =
      inr (refl, prints_of_both, have_prints, ([], file (codes "a") (codes "(attr b)\n"), [], refl, refl, (kind.NotFound, (6, refl))))

-- ---- with status 4 some file isn't put in its place

all_put_is_not_cut : (old new : Option (List ℕ)) → PlacesUpTo both prints_of_both old new (Some []) (Some changed) → ⊥
all_put_is_not_cut old new (start, one, others, is, put, told) =
    let wrong : changed ≡ changed ++ (one ∷ others) = is ∙ ap (λ (l : List SourceFile). l ++ (one ∷ others)) (sym put) in absurd cc

-- ---- where memory runs out nothing may be put

nothing_put_for_want_of_memory : IsFormatted written both (Some []) (Some []) (Some []) (Some []) (Err Memory)
nothing_put_for_want_of_memory = (refl, inl refl)
