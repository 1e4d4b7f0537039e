-- Worked cases: why a command was not begun, and what is told of it.
use Rattle.std.proofs.Common.{arith, ◌≡◌, ◌∷◌, ◌∙◌, ℕ, List, [], Option, Some, None, Err, inl, inr, refl, sym, ap, subst, codes, alloc_error, length, min, take, take_all, true, false, true≢false, string_bytes, bytes_eq}
use Rattle.std.proofs.lemmas.List.{length-take}
use Rattle.std.specs.Global.{Global}
use Rattle.std.specs.Io.KnownBytes.{Appends}
use Rattle.std.specs.Prelude.{String}
use Rattle.clap.specs.Words.{kind_of}
use Rattle.clap.specs.declared.error.Error.{Error}
use Rattle.clap.specs.declared.error.kind.ErrorKind.TheVariants.{DisplayHelp, DisplayVersion, UnknownArgument}
use Rattle.islec.specs.Beginnings.{AsksForHelp, BecomesUnbegun, IsUnread, IsUnreadWorld, TellsUnbegun}
use Rattle.std.specs.declared.io.ErrorKind.TheVariants as kind
use Rattle.islec.specs.Causes.{cause_text, unread_lines, unwritten_lines}
use Rattle.islec.specs.Inputs.{Readings}
use Rattle.islec.specs.Writing.{AppendsBeginning}
use Rattle.islec.specs.declared.cause.Cause.TheVariants.{Fails}
use Rattle.islec.specs.declared.line.LineFault.TheVariants as line_fault
use Rattle.islec.specs.declared.line.Misuse.{Misuse}
use Rattle.islec.specs.declared.line.Misuse.TheVariants.{WritesInput, JudgesNothing}
use Rattle.islec.specs.declared.program.Unbegun.TheVariants.{Usage, Misused, NotText, CannotRead, Memory}
use Rattle.islec.specs.declared.status.Status.{Status}
use Rattle.islec.specs.declared.status.Status.TheVariants as status

-- ---- what a fault of a command line becomes

usage_stays : (e : Error) → BecomesUnbegun (line_fault.Usage e) (Usage e)
usage_stays e = refl

usage_is_no_want_of_memory : (e : Error) → BecomesUnbegun (line_fault.Usage e) Memory → ⊥
usage_is_no_want_of_memory e is = absurd cc

misuse_stays : (misuse : Misuse) → BecomesUnbegun (line_fault.Misuse misuse) (Misused misuse)
misuse_stays misuse = refl

memory_stays : BecomesUnbegun (line_fault.Memory alloc_error) Memory
memory_stays = refl

-- ---- what files that aren't read become

memory_is_unread : (gives : Readings) → IsUnread gives true None [] Memory
memory_is_unread gives = inl refl

-- each file is a directory
abbrev only_directories : Readings
only_directories name given = given ≡ Err kind.IsADirectory

file_is_unread : (name words : String Global) → string_bytes words ≡ codes "a directory"
    → IsUnread only_directories false None (name ∷ []) (CannotRead name words)
file_is_unread name words is = inr (name, (0, omega arith, refl), inr (Fails kind.IsADirectory, refl, inr (words, is, refl)))

no_file_is_unread : (gives : Readings) (name words : String Global) → IsUnread gives true None [] (CannotRead name words) → ⊥
no_file_is_unread gives name words (inl is) = absurd cc
no_file_is_unread gives name words (inr (other, (k, within, at), is)) = omega (arith, within)

words_are_not_unread : (gives : Readings) (name : String Global) → IsUnread gives true None (name ∷ []) NotText → ⊥
words_are_not_unread gives name (inl is) = absurd cc
words_are_not_unread gives name (inr (other, has, inl is)) = absurd cc
words_are_not_unread gives name (inr (other, has, inr (cause, of, inl is))) = absurd cc
words_are_not_unread gives name (inr (other, has, inr (cause, of, inr (words, text, is)))) = absurd cc

-- ---- causes in words

folder_is_told : cause_text (Fails kind.IsADirectory) ≡ codes "a directory"
folder_is_told = refl

missing_file_is_told : cause_text (Fails kind.NotFound) ≡ codes "not found"
missing_file_is_told = refl

other_kind_is_told : cause_text (Fails kind.BrokenPipe) ≡ codes "an error of reading"
other_kind_is_told = refl

-- ---- worlds that aren't read

no_world_is_unread : (gives : Readings) (name words : String Global) → IsUnreadWorld gives None (CannotRead name words) → ⊥
no_world_is_unread gives name words (inl is) = absurd cc
no_world_is_unread gives name words (inr (own, named, is)) = absurd cc

-- ---- help

help_asks : (e : Error) → kind_of e ≡ DisplayHelp → AsksForHelp e
help_asks e is = inl is

version_asks : (e : Error) → kind_of e ≡ DisplayVersion → AsksForHelp e
version_asks e is = inr is

unknown_word_asks_not : (e : Error) → kind_of e ≡ UnknownArgument → AsksForHelp e → ⊥
unknown_word_asks_not e is (inl help) = let wrong = sym is ∙ help in absurd cc
unknown_word_asks_not e is (inr version) = let wrong = sym is ∙ version in absurd cc

help_ends_well : (e : Error) (old new : Option (List ℕ)) → kind_of e ≡ DisplayHelp → TellsUnbegun (Usage e) status.AllWell old new
help_ends_well e old new is = inr (inl (help_asks e is, refl))

help_is_not_refused : (e : Error) (old new : Option (List ℕ)) → kind_of e ≡ DisplayHelp → TellsUnbegun (Usage e) status.Usage old new → ⊥
help_is_not_refused e old new is (inl other) = absurd cc
help_is_not_refused e old new is (inr (inl (help, other))) = absurd cc
help_is_not_refused e old new is (inr (inr (no_help, same))) = no_help (help_asks e is)

unknown_word_is_refused : (e : Error) (old new : Option (List ℕ)) → kind_of e ≡ UnknownArgument → TellsUnbegun (Usage e) status.Usage old new
unknown_word_is_refused e old new is = inr (inr (unknown_word_asks_not e is, refl))

unknown_word_ends_not_well : (e : Error) (old new : Option (List ℕ)) → kind_of e ≡ UnknownArgument → TellsUnbegun (Usage e) status.AllWell old new → ⊥
unknown_word_ends_not_well e old new is (inl other) = absurd cc
unknown_word_ends_not_well e old new is (inr (inl (help, same))) = unknown_word_asks_not e is help
unknown_word_ends_not_well e old new is (inr (inr (no_help, other))) = absurd cc

-- ---- lines, written behind the byte 1

abbrev one : Option (List ℕ)
one = Some (1 ∷ [])

no_text_is_told : TellsUnbegun NotText status.Usage one (Some (1 ∷ codes "error: a word of the command line isn't UTF-8\n"))
no_text_is_told = inr (refl, refl)

no_text_is_told_so : (line : List ℕ) → TellsUnbegun NotText status.Usage one (Some line)
    → line ≡ 1 ∷ codes "error: a word of the command line isn't UTF-8\n"
no_text_is_told_so line (inl other) = absurd cc
no_text_is_told_so line (inr (same, is)) = is

no_text_ends_not_well : (old new : Option (List ℕ)) → TellsUnbegun NotText status.AllWell old new → ⊥
no_text_ends_not_well old new (inl other) = absurd cc
no_text_ends_not_well old new (inr (other, is)) = absurd cc

told_so : AppendsBeginning one (Some (1 ∷ codes "cannot read a.isle\n  not found\n")) (unread_lines (codes "a.isle") (codes "not found"))
told_so = (31, refl)

unread_file_is_told : (name words : String Global) → string_bytes name ≡ codes "a.isle" → string_bytes words ≡ codes "not found"
    → TellsUnbegun (CannotRead name words) status.InputOutput one (Some (1 ∷ codes "cannot read a.isle\n  not found\n"))
unread_file_is_told name words is cause = (
  refl,
  subst (λ (of : List ℕ). AppendsBeginning one (Some (1 ∷ codes "cannot read a.isle\n  not found\n")) (unread_lines of (string_bytes words))) (sym is)
      (subst (λ (why : List ℕ). AppendsBeginning one (Some (1 ∷ codes "cannot read a.isle\n  not found\n")) (unread_lines (codes "a.isle") why))
      (sym cause) told_so),
)

another_name_is_not_told : (name words : String Global) → string_bytes name ≡ codes "a.isle" → string_bytes words ≡ codes "not found"
    → TellsUnbegun (CannotRead name words) status.InputOutput (Some []) (Some (codes "cannot read b.isle\n  not found\n")) → ⊥
another_name_is_not_told name words is cause (same, (count, told)) =
    let named : codes "cannot read b.isle\n  not found\n" ≡ take count (unread_lines (codes "a.isle") (string_bytes words)) =
    subst (λ (of : List ℕ). codes "cannot read b.isle\n  not found\n" ≡ take count (unread_lines of (string_bytes words))) is told in
    let wrote : codes "cannot read b.isle\n  not found\n" ≡ take count (codes "cannot read a.isle\n  not found\n") =
    subst (λ (why : List ℕ). codes "cannot read b.isle\n  not found\n" ≡ take count (unread_lines (codes "a.isle") why)) cause named in
    let long : 31 ≡ min count 31 = ap length wrote ∙ length-take count (codes "cannot read a.isle\n  not found\n") in
    let both = wrote ∙ take_all count (codes "cannot read a.isle\n  not found\n") (omega (arith, long)) in
    let wrong : true ≡ false = ap (λ (text : List ℕ). bytes_eq text (codes "cannot read b.isle\n  not found\n")) both in
    absurd (true≢false wrong)

unread_file_only_fails : (name words : String Global) (ended : Status) (old new : Option (List ℕ))
    → TellsUnbegun (CannotRead name words) ended old new
    → ended ≡ status.InputOutput
unread_file_only_fails name words ended old new is = is.0

full_disk_is_told : unwritten_lines (codes "a.isle") kind.StorageFull ≡ codes "cannot write a.isle\n  no space\n"
full_disk_is_told = refl

misuse_is_told : TellsUnbegun (Misused WritesInput) status.Usage one (Some (1 ∷ codes "error: standard input can't be written in place\n"))
misuse_is_told = inr (refl, refl)

judging_is_told : TellsUnbegun (Misused JudgesNothing) status.Usage one (Some (1 ∷ codes "error: --partial and --steps-at-most need --missing\n"))
judging_is_told = inr (refl, refl)

misuse_ends_not_well : (misuse : Misuse) (old new : Option (List ℕ)) → TellsUnbegun (Misused misuse) status.AllWell old new → ⊥
misuse_ends_not_well misuse old new (inl other) = absurd cc
misuse_ends_not_well misuse old new (inr (other, is)) = absurd cc

memory_is_told : TellsUnbegun Memory status.OutOfMemory one (Some (1 ∷ codes "out of memory\n"))
memory_is_told = (refl, (14, refl))

memory_is_told_in_part : TellsUnbegun Memory status.OutOfMemory one (Some (1 ∷ codes "out"))
memory_is_told_in_part = (refl, (3, refl))

memory_is_told_behind : TellsUnbegun Memory status.OutOfMemory one (Some []) → ⊥
memory_is_told_behind (same, (count, is)) = absurd cc
