-- What is put in the place of files.
use Rattle.std.specs.Prelude.{◌≡◌, ◌++◌, ℕ, List, [], ◌∷◌, Option, Some, None, if◌then◌else◌, ⊤}
use Rattle.std.specs.Str.{bytes_eq}
use Rattle.isle_ast.specs.Positions.Files.{SourceFile}

-- files are put in place, one after another, behind those that were so before; where these aren't known nothing is said
abbrev pub Puts : (before after : Option (List SourceFile)) → List SourceFile → Type 0
Puts None after files = ⊤
Puts (Some known) None files = ⊥
Puts (Some known) (Some all) files = all ≡ known ++ files

-- the files that aren't their prints, with the prints as their texts
abbrev pub changed_of : List SourceFile → (prints : List (List ℕ)) → List SourceFile
changed_of [] prints = []
changed_of (file ∷ files) [] = []
changed_of (file ∷ files) (print ∷ prints) =
    if bytes_eq print file.text then changed_of files prints else record { name = file.name; text = print } ∷ changed_of files prints

-- some first ones of these files are put in place
abbrev pub PutsFirst : (before after : Option (List SourceFile)) → List SourceFile → Type 0
PutsFirst before after files = (first rest : List SourceFile) × (files ≡ first ++ rest) × Puts before after first

-- some first ones are, and the next one isn't, of which so much holds
abbrev pub PutsUpTo : (before after : Option (List SourceFile)) → List SourceFile → (OfNext : SourceFile → Type 0) → Type 0
PutsUpTo before after files OfNext =
    (first : List SourceFile) × (next : SourceFile) × (rest : List SourceFile) × (files ≡ first ++ (next ∷ rest)) × Puts before after first
    × OfNext next
