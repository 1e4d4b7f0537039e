-- How a whole command ends, by what its parts promise.
use Rattle.std.proofs.Common.{◌≡◌, ◌∙◌, ℕ, Bool, List, [], ◌∷◌, Option, Some, String, inl, inr, refl, sym, ap, subst, map, string_bytes}
use Rattle.std.specs.Global.{Global}
use Rattle.std.specs.List.{Contains}
use Rattle.clap.specs.Words.{Text}
use Rattle.isle_ast.specs.Positions.Files.{SourceFile, source_file}
use Rattle.islec.specs.Beginnings.{IsUnread, IsUnreadFile, IsUnreadWorld}
use Rattle.islec.specs.Endings.{EndsJob, EndsCommand, Begins, HoldsBack, done, told}
use Rattle.islec.specs.Inputs.{Readings, GivesFile, ReadsFiles, is_input}
use Rattle.islec.specs.Jobs.{reads_input}
use Rattle.islec.proofs.InputLemmas.{cause_before}
use Rattle.islec.specs.Lines.{ReadsLine}
use Rattle.islec.specs.Statuses.{code_of}
use Rattle.islec.specs.Worlds.{world_file}
use Rattle.islec.specs.declared.line.Job.{Job}
use Rattle.islec.specs.declared.line.Line.{Line}
use Rattle.islec.specs.declared.program.Begun.{Begun}
use Rattle.islec.specs.declared.program.Unbegun.{Unbegun}
use Rattle.islec.specs.declared.status.Status.{Status}

-- files have the names of their texts
pub source_names : (texts : List (String Global × String Global)) → map (λ file. file.name) (map source_file texts) ≡ map string_bytes
    (map (λ text. text.0) texts)
source_names [] = refl
source_names (text ∷ others) = ap (λ (names : List Text). string_bytes text.0 ∷ names) (source_names others)

-- a command that begins as its words say ends as its job does
pub ends_done : (gives : Readings) (words : List Text) (begun : Begun) (input left old new : Option (List ℕ))
    (before after : Option (List SourceFile)) (code : ℕ) (middle : Option (List ℕ)) → Begins gives words input middle begun
    → (status : Status) × (code ≡ code_of status) × EndsJob begun.job (map source_file begun.texts.items)
    (world_file begun.world) middle left old new before after status
    → EndsCommand gives words input left old new before after code
ends_done gives words begun input left old new before after code middle begins (status, is, ends) =
    done begins.line begins.reads (map source_file begun.texts.items)
    (source_names begun.texts.items ∙ ap (λ (names : List (String Global)). map string_bytes names) begins.texts)
    (world_file begun.world) begins.world middle begins.inputs status is
    (subst (λ (job : Job). EndsJob job (map source_file begun.texts.items) (world_file begun.world) middle left old new before after status)
    begins.job ends)

-- however a command ends, it has a status
pub status_of : (gives : Readings) (words : List Text) (input left old new : Option (List ℕ)) (before after : Option (List SourceFile)) (code : ℕ)
    → EndsCommand gives words input left old new before after code → (status : Status) × (code ≡ code_of status)
status_of gives words input left old new before after code (done line reads files named world of middle inputs status is ends) = (status, is)
status_of gives words input left old new before after code (told why holds status is tells stays) = (status, is)

-- a file that isn't read behind others is one of the names
pub unread_among : (gives : Readings) (reads : Bool) (read : List SourceFile) (names : List (String Global)) (name : String Global) (why : Unbegun)
    (input middle : Option (List ℕ)) → Contains names name → ReadsFiles gives reads read input middle
    → IsUnreadFile (GivesFile (is_input reads (string_bytes name)) (gives (string_bytes name)) middle) name why → IsUnread gives reads input names why
unread_among gives reads read names name why input middle has before (inl memory) = inl memory
unread_among gives reads read names name why input middle has before (inr (cause, is, tells)) =
    let from = cause_before gives reads read input middle before (is_input reads (string_bytes name)) (gives (string_bytes name)) cause is in
    inr (name, has, inr (cause, from, tells))

-- or it is the world's
pub unread_world : (gives : Readings) (world : Option (String Global)) (name : String Global) (why : Unbegun) → world ≡ Some name
    → IsUnreadFile (gives (string_bytes name)) name why → IsUnreadWorld gives world why
unread_world gives world name why is unread = inr (name, is, unread)

-- words whose files aren't read may not begin
module _ (gives : Readings) (words : List Text) (input : Option (List ℕ)) (line : Line) (reads : ReadsLine words line) where
  abbrev Holds : Unbegun → Type 0
  Holds why = HoldsBack gives words input why

  pub files_hold_back : (why : Unbegun) → IsUnread gives (reads_input line.job) input line.files.items why → Holds why
  files_hold_back why (inl memory) = subst Holds (sym memory) tt
  files_hold_back why (inr (name, has, inl memory)) = subst Holds (sym memory) tt
  files_hold_back why (inr (name, has, inr (cause, of, inl memory))) = subst Holds (sym memory) tt
  files_hold_back why (inr (name, has, inr (cause, of, inr (own, text, unread)))) =
      subst Holds (sym unread) (line, reads, inl (has, (cause, of, text)))

  pub world_holds_back : (why : Unbegun) → IsUnreadWorld gives line.world why → Holds why
  world_holds_back why (inl memory) = subst Holds (sym memory) tt
  world_holds_back why (inr (name, is, inl memory)) = subst Holds (sym memory) tt
  world_holds_back why (inr (name, is, inr (cause, of, inl memory))) = subst Holds (sym memory) tt
  world_holds_back why (inr (name, is, inr (cause, of, inr (own, text, unread)))) =
      subst Holds (sym unread) (line, reads, inr (is, (cause, of, text)))
