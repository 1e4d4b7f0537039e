-- Worked cases: what is told of the calls of terms, and when the last line may stand.
use Rattle.std.proofs.Common.{arith, ◌≡◌, ◌≢◌, ◌∙◌, ◌++◌, ◌∷◌, ℕ, List, [], true, false, Some, None, Ok, Err, inl, inr, refl, sym, ap, codes}
use Rattle.std.specs.Prelude.{decimal}
use Rattle.std.proofs.lemmas.Fmt.{decimal_digit}
use Rattle.isle_ast.specs.Positions.Files.{SourceFile}
use Rattle.isle_types.specs.declared.ids.TermId.{TermId}
use Rattle.isle_program.specs.declared.program.Program.{Program}
use Rattle.isle_program.specs.Facts.Asked.{AreRoots}
use Rattle.isle_program.specs.Facts.Inhabited.{AreAllInhabited}
use Rattle.isle_program.specs.Meanings.{checked, may_run}
use Rattle.isle_program.specs.Programs.{term_name, terms_of, types_of}
use Rattle.isle_coverage.specs.Covered.{IsCovered}
use Rattle.islec.specs.Lines.{judging_of}
use Rattle.islec.specs.Missing.{EndsCalls, IsLastLine, IsNeverStuckProgram, TellsAllCalls, TellsCalls, TellsMissing, TellsPlaced, TellsTerm}
use Rattle.islec.specs.Missing.{no_terms, more_terms, place_of, undecided_line}
use Rattle.islec.specs.declared.line.Misuse.TheVariants.{JudgesNothing}
use Rattle.islec.specs.declared.missing.Judging.{Judging}

-- ---- a term

-- of a covered term nothing is told, and a term of which nothing is told is covered
covered_is_told_by_nothing : (files : List SourceFile) (program : Program) (steps : ℕ) (term : TermId)
    → IsCovered (checked program) term.0 → TellsCalls files program steps term []
covered_is_told_by_nothing files program steps term covers = record { is = inl refl; covered = λ none runs. covers }

nothing_tells_covered : (files : List SourceFile) (program : Program) (steps : ℕ) (term : TermId)
    → TellsCalls files program steps term [] → may_run program term.0 → IsCovered (checked program) term.0
nothing_tells_covered files program steps term told runs = told.covered refl runs

-- of a term that isn't covered, and that can be run, something is told
something_is_told : (files : List SourceFile) (program : Program) (steps : ℕ) (term : TermId) (text : List ℕ)
    → TellsCalls files program steps term text → may_run program term.0 → (¬ IsCovered (checked program) term.0) → text ≢ []
something_is_told files program steps term text told runs uncovered none = uncovered (told.covered none runs)

-- the place of a term that is declared there, with a call below it, which isn't nothing
call_is_placed : (files : List SourceFile) (program : Program) (term : TermId) → place_of files program term ≡ codes "a.isle:2:7"
    → TellsPlaced files program term (codes "a.isle:2:7: missing\n  (simp (Op.Sub _ _)) matches no rule\n")
call_is_placed files program term placed = (
  codes "  (simp (Op.Sub _ _)) matches no rule\n",
  ap (λ (place : List ℕ). place ++ codes ": missing\n  (simp (Op.Sub _ _)) matches no rule\n") (sym placed),
)

nothing_is_not_placed : (files : List SourceFile) (program : Program) (term : TermId) → TellsPlaced files program term [] → ⊥
nothing_is_not_placed files program term (lines, is) = go (place_of files program term) is
  where
    go : (place : List ℕ) → [] ≡ place ++ (codes ": missing\n" ++ lines) → ⊥
    go [] is = absurd cc
    go (first ∷ place) is = absurd cc

-- the line of a term named `size`, judged within 9 steps
undecided_is_told : (program : Program) (term : TermId) → term_name program term ≡ codes "size"
    → undecided_line program 9 term ≡ codes "size: not decided within 9 steps\n"
undecided_is_told program term named =
    ap (λ (name : List ℕ). name ++ (codes ": not decided within " ++ (decimal 9 ++ codes " steps\n"))) named
    ∙ ap (λ (digits : List ℕ). codes "size" ++ (codes ": not decided within " ++ (digits ++ codes " steps\n"))) (decimal_digit 9 (omega arith))

-- ---- all terms

-- a program of one term, of which nothing is told, and of which no call is ever stuck
last_line_is_told : (files : List SourceFile) (program : Program) (judging : Judging) (term : TermId) → AreRoots (terms_of program) (term ∷ [])
    → TellsTerm files program judging term [] → IsNeverStuckProgram program
    → TellsAllCalls files program judging (codes "no call is ever stuck\n")
last_line_is_told files program judging term roots told never = record {
  terms = term ∷ [];
  roots = roots;
  texts = [];
  told = more_terms told no_terms;
  last = codes "no call is ever stuck\n";
  ends = record { is = inr (refl, never); stands = λ none inhabited. refl };
  is = refl;
}

-- where a call may be stuck the last line is missing, and so something is told of some term
no_last_line : (program : Program) (line : List ℕ) → IsLastLine program line → (¬ IsNeverStuckProgram program) → line ≡ []
no_last_line program line (inl none) stuck = none
no_last_line program line (inr (is, never)) stuck = absurd (stuck never)

something_is_told_of_all : (program : Program) (texts line : List ℕ) → EndsCalls program texts line → AreAllInhabited (types_of program).types
    → (¬ IsNeverStuckProgram program) → texts ≢ []
something_is_told_of_all program texts line ends inhabited stuck nothing =
    let wrong = sym (no_last_line program line ends.is stuck) ∙ ends.stands nothing inhabited in absurd cc

-- nothing is told where nothing is asked
nothing_unasked : (files : List SourceFile) (program : Program) (text : List ℕ) → TellsMissing files program None text → text ≡ []
nothing_unasked files program text is = is

-- ---- options

only_missing : judging_of true false None ≡ Ok (Some (record { partial = false; steps = 10000000 }))
only_missing = refl

partial_terms_and_steps : judging_of true true (Some 0) ≡ Ok (Some (record { partial = true; steps = 0 }))
partial_terms_and_steps = refl

nothing_asked : judging_of false false None ≡ Ok None
nothing_asked = refl

only_partial : judging_of false true None ≡ Err JudgesNothing
only_partial = refl

only_steps : judging_of false false (Some 7) ≡ Err JudgesNothing
only_steps = refl
