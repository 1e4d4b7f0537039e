-- What is read of files one after another.
use Rattle.std.proofs.Common.{◌≡◌, ◌∙◌, ℕ, Bool, true, false, List, [], ◌∷◌, ◌++◌, Option, Some, None, String, Result, Ok, refl, sym, subst, map}
use Rattle.std.proofs.lemmas.List.{map_push}
use Rattle.std.specs.Global.{Global}
use Rattle.std.specs.Str.{IsUtf8}
use Rattle.std.specs.declared.io.ErrorKind.{ErrorKind}
use Rattle.isle_ast.specs.Positions.Files.{SourceFile, source_file}
use Rattle.islec.specs.Beginnings.{IsCauseOf}
use Rattle.islec.specs.Inputs.{Readings, GivesFile, GivesInput, ReadsFile, ReadsFiles, ReadsText, is_input}
use Rattle.islec.specs.declared.cause.Cause.{Cause}
use Rattle.islec.specs.declared.cause.Cause.TheVariants.{NotUtf8, Fails}

-- one file more at the end is read of what the others left
pub ReadsFiles-more : (gives : Readings) (reads : Bool) (files : List SourceFile) (file : SourceFile) (input middle left : Option (List ℕ))
    → ReadsFiles gives reads files input middle → ReadsFile gives reads file middle left → ReadsFiles gives reads (files ++ file ∷ []) input left
ReadsFiles-more gives reads [] file input middle left same read =
    (left, subst (λ (from : Option (List ℕ)). ReadsFile gives reads file from left) same read, refl)
ReadsFiles-more gives reads (other ∷ others) file input middle left (own, first, rest) read =
    (own, first, ReadsFiles-more gives reads others file own middle left rest read)

-- the same, as a loop pushes texts
pub ReadsFiles-pushed : (gives : Readings) (reads : Bool) (texts grown : List (String Global × String Global)) (text : String Global × String Global)
    (input middle left : Option (List ℕ)) → grown ≡ texts ++ text ∷ [] → ReadsFiles gives reads (map source_file texts) input middle
    → ReadsFile gives reads (source_file text) middle left → ReadsFiles gives reads (map source_file grown) input left
ReadsFiles-pushed gives reads texts grown text input middle left is before read =
    rw is (rw (map_push source_file texts text)
    (ReadsFiles-more gives reads (map source_file texts) (source_file text) input middle left before read))

-- one file of standard input leaves nothing, which is UTF-8
given_by_one : (is_it : Bool) (Gives : Result (List ℕ) ErrorKind → Type 0) (text : List ℕ) (input middle : Option (List ℕ))
    → ReadsText is_it Gives text input middle → (bytes : List ℕ) → ¬ IsUtf8 bytes → GivesInput middle (Ok bytes) → GivesInput input (Ok bytes)
given_by_one true Gives text None middle read bytes not_utf8 (left, took, end) = (left, tt, end)
given_by_one true Gives text (Some xs) None read bytes not_utf8 given = absurd (read.0)
given_by_one true Gives text (Some xs) (Some []) read [] not_utf8 given = absurd (not_utf8 ([], (refl, refl)))
given_by_one true Gives text (Some xs) (Some []) read (byte ∷ bytes) not_utf8 (None, took, end) = absurd took
given_by_one true Gives text (Some xs) (Some []) read (byte ∷ bytes) not_utf8 (Some zs, took, end) = absurd cc
given_by_one true Gives text (Some xs) (Some (y ∷ ys)) (took, end) bytes not_utf8 given = absurd cc
given_by_one false Gives text input middle (gave, same) bytes not_utf8 given = subst (λ (at : Option (List ℕ)). GivesInput at (Ok bytes)) same given

-- what isn't UTF-8 and is given after files, was given before them
given_before : (gives : Readings) (reads : Bool) (files : List SourceFile) (input middle : Option (List ℕ))
    → ReadsFiles gives reads files input middle → (bytes : List ℕ) → ¬ IsUtf8 bytes → GivesInput middle (Ok bytes) → GivesInput input (Ok bytes)
given_before gives reads [] input middle same bytes not_utf8 given = subst (λ (at : Option (List ℕ)). GivesInput at (Ok bytes)) same given
given_before gives reads (file ∷ others) input middle (own, first, rest) bytes not_utf8 given =
    given_by_one (is_input reads file.name) (gives file.name) file.text input own first bytes not_utf8
    (given_before gives reads others own middle rest bytes not_utf8 given)

-- so is a cause
pub cause_before : (gives : Readings) (reads : Bool) (files : List SourceFile) (input middle : Option (List ℕ))
    → ReadsFiles gives reads files input middle → (is_it : Bool) (Gives : Result (List ℕ) ErrorKind → Type 0) (cause : Cause)
    → IsCauseOf (GivesFile is_it Gives middle) cause → IsCauseOf (GivesFile is_it Gives input) cause
cause_before gives reads files input middle read true Gives (NotUtf8 at) (bytes, given, not_utf8, is) =
    (bytes, given_before gives reads files input middle read bytes not_utf8 given, not_utf8, is)
cause_before gives reads files input middle read true Gives (Fails kind) failed = tt
cause_before gives reads files input middle read false Gives cause is = is
