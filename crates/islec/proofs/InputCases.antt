-- Worked cases: which files are standard input, what they take of it, what becomes of files that are laid out, and which options of `fmt` go
-- together.
use Rattle.std.proofs.Common.{◌≡◌, ◌∙◌, ◌∷◌, ◌++◌, ℕ, List, [], Option, Some, None, Ok, refl, sym, ap, subst, true, false, true≢false, codes, bytes_eq}
use Rattle.std.proofs.lemmas.Str.{IsUtf8-from_is_utf8, is_utf8-from_IsUtf8}
use Rattle.std.specs.Char.{encode_utf8}
use Rattle.std.specs.Str.{IsUtf8, chars, is_utf8}
use Rattle.std.specs.Str.Lossy.{utf8_valid_len}
use Rattle.std.specs.declared.io.ErrorKind.TheVariants as kind
use Rattle.std.proofs.lemmas.Option.{same_Some}
use Rattle.isle_ast.specs.Positions.Files.{SourceFile}
use Rattle.islec.specs.Beginnings.{IsCauseOf}
use Rattle.islec.specs.Formatting.{Tells, TellsEach, status_behind}
use Rattle.islec.specs.Inputs.{Readings, ReadsFiles, is_input}
use Rattle.islec.specs.Lines.{has_input, misuse_of, output_of}
use Rattle.islec.specs.Outputs.{Puts, changed_of}
use Rattle.islec.specs.declared.format.Output.TheVariants.{Prints, Names, Changes, Places}
use Rattle.islec.specs.declared.line.Misuse.TheVariants.{Loses, WritesAndTells, WritesInput}
use Rattle.islec.specs.declared.cause.Cause.TheVariants.{NotUtf8, Fails}
use Rattle.islec.specs.declared.status.Status.TheVariants.{AllWell, TextsRefused}

dash_is_input : is_input true (codes "-") ≡ true
dash_is_input = refl

path_is_no_input : is_input true (codes "./-") ≡ false
path_is_no_input = refl

queries_are_no_file : is_input false (codes "-") ≡ false
queries_are_no_file = refl

abbrev file : List ℕ → List ℕ → SourceFile
file name text = record { name = name; text = text }

-- each file holds the byte of `c`
abbrev has_c : Readings
has_c name given = given ≡ Ok (codes "c")

-- the first takes all, and the others nothing
input_is_read_once : ReadsFiles has_c true (file (codes "-") (codes "ab") ∷ file (codes "a") (codes "c") ∷ file (codes "-") [] ∷ [])
    (Some (codes "ab")) (Some [])
input_is_read_once = (Some [], (refl, refl), (Some [], (refl, refl), (Some [], (refl, refl), refl)))

part_is_not_read : (left : Option (List ℕ)) → ReadsFiles has_c true (file (codes "-") (codes "a") ∷ []) (Some (codes "ab")) left → ⊥
part_is_not_read left (None, (took, end), same) = took
part_is_not_read left (Some rest, (took, end), same) =
    let is : codes "ab" ≡ codes "a" = took ∙ ap (λ (bytes : List ℕ). codes "a" ++ bytes) end in
    let wrong : true ≡ false = ap (λ (text : List ℕ). bytes_eq text (codes "ab")) is in absurd (true≢false wrong)

file_takes_nothing : (input left : Option (List ℕ)) → ReadsFiles has_c true (file (codes "a") (codes "c") ∷ []) input left → left ≡ input
file_takes_nothing input left (middle, (given, same), also) = also ∙ same

-- another text than the file holds is not read of it
no_other_text_is_read : (input left : Option (List ℕ)) → ReadsFiles has_c true (file (codes "a") [] ∷ []) input left → ⊥
no_other_text_is_read input left (middle, (given, same), also) = absurd cc

-- ---- why a file isn't read

-- a file that holds `c` isn't told to be missing
a_held_file_is_not_missing : IsCauseOf (has_c (codes "a")) (Fails kind.NotFound) → ⊥
a_held_file_is_not_missing failed = absurd cc

-- nor to be no text
a_text_is_not_told_to_be_none : (at : ℕ) → IsCauseOf (has_c (codes "a")) (NotUtf8 at) → ⊥
unfolding is_utf8 chars encode_utf8
a_text_is_not_told_to_be_none at (bytes, given, not_utf8, is) =
    let same : codes "c" ≡ bytes = cc in not_utf8 (subst (λ (text : List ℕ). IsUtf8 text) same (IsUtf8-from_is_utf8 (codes "c") refl))

-- a byte 255 is no text from the first on
abbrev has_no_text : Readings
has_no_text name given = given ≡ Ok (255 ∷ [])

no_text_is_told_at_its_first_byte : IsCauseOf (has_no_text (codes "a")) (NotUtf8 0)
unfolding is_utf8 chars utf8_valid_len
no_text_is_told_at_its_first_byte = (255 ∷ [], refl, λ utf8. true≢false (sym (is_utf8-from_IsUtf8 (255 ∷ []) utf8)), refl)

-- ---- files that are laid out

print_is_told : Tells Prints (file (codes "a") (codes "x ")) (codes "x") (codes "x")
print_is_told = refl

formatted_is_not_named : (told : List ℕ) → Tells Names (file (codes "a") (codes "x")) (codes "x") told → told ≡ []
formatted_is_not_named told is = is

unformatted_is_named : Tells Names (file (codes "a") (codes "x ")) (codes "x") (codes "a\n")
unformatted_is_named = refl

no_place_is_told : (told : List ℕ) → Tells Places (file (codes "a") (codes "x ")) (codes "x") told → told ≡ []
no_place_is_told told is = is

two_are_told : TellsEach Names (file (codes "a") (codes "x ") ∷ file (codes "b") (codes "x ") ∷ []) (codes "x" ∷ codes "x" ∷ []) (codes "a\nb\n")
two_are_told = (codes "a\n", codes "b\n", refl, (codes "b\n", [], refl, refl, refl), refl)

named_files_are_refused : status_behind Names (codes "a\n") ≡ TextsRefused
named_files_are_refused = refl

changes_are_refused : status_behind Changes (codes "--- a\n") ≡ TextsRefused
changes_are_refused = refl

printed_files_are_not : status_behind Prints (codes "a\n") ≡ AllWell
printed_files_are_not = refl

-- ---- files that are put in place

only_changed_files_are_put : changed_of (file (codes "a") (codes "x") ∷ file (codes "b") (codes "x ") ∷ []) (codes "x" ∷ codes "x" ∷ [])
    ≡ file (codes "b") (codes "x") ∷ []
only_changed_files_are_put = refl

they_are_put_behind_others : (after : List SourceFile) → Puts (Some (file (codes "a") [] ∷ [])) (Some after) (file (codes "b") [] ∷ [])
    → after ≡ file (codes "a") [] ∷ file (codes "b") [] ∷ []
they_are_put_behind_others after put = put

none_is_put_where_one_is_known : Puts (Some []) None [] → ⊥
none_is_put_where_one_is_known put = put

-- ---- options of `fmt` that go together or don't

written_without_comments : misuse_of false false false true false ≡ Some Loses
written_without_comments = refl

shown_without_comments : misuse_of false true true false false ≡ Some Loses
shown_without_comments = refl

written_and_named : misuse_of true true false true false ≡ Some WritesAndTells
written_and_named = refl

written_and_shown : misuse_of true false true true false ≡ Some WritesAndTells
written_and_shown = refl

written_input : misuse_of true false false true true ≡ Some WritesInput
written_input = refl

written_files : misuse_of true false false true false ≡ None
written_files = refl

shown_input : misuse_of true true true false true ≡ None
shown_input = refl

input_is_among : has_input (codes "a" ∷ codes "-" ∷ []) ≡ true
input_is_among = refl

path_is_not_among : has_input (codes "a" ∷ codes "./-" ∷ []) ≡ false
path_is_not_among = refl

changes_are_shown_for_names : output_of true true false ≡ Changes
changes_are_shown_for_names = refl

nothing_else_is_asked : output_of false false false ≡ Prints
nothing_else_is_asked = refl
