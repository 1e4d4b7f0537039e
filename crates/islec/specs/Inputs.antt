-- What reading files gives, which of them are standard input, and what is read of it.
use Rattle.std.specs.Prelude.{◌≡◌, ◌&&◌, ℕ, Bool, true, false, List, [], ◌∷◌, Option, Result, Ok, Err, codes, ⊤}
use Rattle.std.specs.Str.{bytes_eq}
use Rattle.std.specs.Io.KnownBytes.{Consumes, IsAtEnd}
use Rattle.std.specs.declared.io.ErrorKind.{ErrorKind}
use Rattle.isle_ast.specs.Positions.Files.{SourceFile}
use Rattle.islec.specs.declared.sources.FileFault.{FileFault}
use Rattle.islec.specs.declared.sources.FileFault.TheVariants.{Fails, Memory}

-- what reading the file of a name may give: its bytes, or an error of a kind
abbrev pub Readings : Type 1
Readings = List ℕ → Result (List ℕ) ErrorKind → Type 0

-- where reading fails with an error, that is one that it may give
abbrev pub MayFail : (Result (List ℕ) ErrorKind → Type 0) → FileFault → Type 0
MayFail Gives (Fails kind) = Gives (Err kind)
MayFail Gives Memory = ⊤

-- whether a file of this name is standard input: its name is `-`, where that is how it is read
abbrev pub is_input : (reads : Bool) → List ℕ → Bool
is_input reads name = reads && bytes_eq name (codes "-")

-- a text that is standard input is all that is left of it, and nothing is left then; any other is one that reading gives, and the input stays
-- as it is
abbrev pub ReadsText : Bool → (Gives : Result (List ℕ) ErrorKind → Type 0) → (text : List ℕ) → (input left : Option (List ℕ)) → Type 0
ReadsText true Gives text input left = Consumes input left text × IsAtEnd left
ReadsText false Gives text input left = Gives (Ok text) × (left ≡ input)

-- a file is read, of standard input or by its name
abbrev pub ReadsFile : Readings → (reads : Bool) → SourceFile → (input left : Option (List ℕ)) → Type 0
ReadsFile gives reads file input left = ReadsText (is_input reads file.name) (gives file.name) file.text input left

-- files are read one after another
abbrev pub ReadsFiles : Readings → (reads : Bool) → List SourceFile → (input left : Option (List ℕ)) → Type 0
ReadsFiles gives reads [] input left = left ≡ input
ReadsFiles gives reads (file ∷ others) input left =
    (middle : Option (List ℕ)) × ReadsFile gives reads file input middle × ReadsFiles gives reads others middle left

-- what reading standard input may give: all that is left of it, or any error
abbrev pub GivesInput : Option (List ℕ) → Result (List ℕ) ErrorKind → Type 0
GivesInput input (Ok bytes) = (left : Option (List ℕ)) × Consumes input left bytes × IsAtEnd left
GivesInput input (Err kind) = ⊤

-- what reading a file may give: one that is standard input, or the file of this name
abbrev pub GivesFile : Bool → (Gives : Result (List ℕ) ErrorKind → Type 0) → (input : Option (List ℕ)) → Result (List ℕ) ErrorKind → Type 0
GivesFile true Gives input = GivesInput input
GivesFile false Gives input = Gives
