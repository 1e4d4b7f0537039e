-- What is written of the trees of a program's rules.
use Rattle.std.specs.Prelude.{◌≡◌, ◌⊎◌, ◌++◌, ◌∷◌, ℕ, Bool, true, false, List, Option, None, Some, codes, map}
use Rattle.std.specs.Io.KnownBytes.{Appends}
use Rattle.isle_ast.specs.Positions.Files.{SourceFile}
use Rattle.isle_types.specs.declared.ids.TermId.{TermId}
use Rattle.isle_program.specs.Compiled.{AreAccepted, IsProgramOf}
use Rattle.isle_program.specs.Programs.{program_term}
use Rattle.isle_tell.specs.TreeTexts.DotSets.{TellsGraph}
use Rattle.isle_tell.specs.TreeTexts.Sets.{TellsTrees}
use Rattle.isle_program.specs.declared.program.Program.{Program}
use Rattle.islec.specs.declared.blocks.Asked.{Asked}
use Rattle.islec.specs.declared.blocks.Asked.TheVariants.{Terms, Unknown}
use Rattle.islec.specs.Running.{CutsFaults}
use Rattle.islec.specs.Writing.{AppendsBeginning}

-- the terms of these names, in their order
abbrev pub AreNamed : Program → List (List ℕ) → List TermId → Type 0
AreNamed program names terms = map (program_term program) names ≡ map Some terms

-- the first of these names that is that of no term
pub record IsUnknown (program : Program) (names : List (List ℕ)) (name : List ℕ) : Type 0 where
  pub before : List (List ℕ)
  pub after : List (List ℕ)
  pub terms : List TermId
  pub among : names ≡ before ++ name ∷ after
  pub known : AreNamed program before terms
  pub unknown : program_term program name ≡ None

-- the terms of all the names, or the first name that is that of none
abbrev pub AreAsked : Program → List (List ℕ) → Asked → Type 0
AreAsked program names (Terms terms) = AreNamed program names terms.items
AreAsked program names (Unknown name) = IsUnknown program names name.now

-- the line that tells which name is that of no term
abbrev pub unknown_line : List ℕ → List ℕ
unknown_line name = codes "error: no term is named " ++ (name ++ codes "\n")

-- the trees of these terms or of all, as one graph or in words
abbrev pub TellsAs : (dot : Bool) → Program → List SourceFile → List TermId → List ℕ → Type 0
TellsAs true program files terms text = TellsGraph program files terms text
TellsAs false program files terms text = TellsTrees program files terms text

-- the text of the program's trees, of the terms of these names or of all, as one graph where that is asked for
pub record DrawsTrees (program : Program) (files : List SourceFile) (names : List (List ℕ)) (dot : Bool) (text : List ℕ) : Type 0 where
  pub terms : List TermId
  pub named : AreNamed program names terms
  pub told : TellsAs dot program files terms text

-- the files are accepted, and a writer that held `old` holds these bytes and behind them the trees of their program
pub record WritesTrees (files : List SourceFile) (names : List (List ℕ)) (dot : Bool) (old new : Option (List ℕ)) : Type 0 where
  pub accepted : AreAccepted files
  pub program : Program
  pub is : IsProgramOf files program
  pub text : List ℕ
  pub drawn : DrawsTrees program files names dot text
  pub written : Appends old new text

-- the files are accepted, and the line is written that tells which name is that of no term
pub record WritesUnknown (files : List SourceFile) (names : List (List ℕ)) (old new : Option (List ℕ)) : Type 0 where
  pub accepted : AreAccepted files
  pub program : Program
  pub is : IsProgramOf files program
  pub name : List ℕ
  pub unknown : IsUnknown program names name
  pub written : Appends old new (unknown_line name)

-- a text of a program's trees: the trees, or the line that tells which name is unknown
abbrev pub TellsTreesOf : Program → List SourceFile → List (List ℕ) → (dot : Bool) → List ℕ → Type 0
TellsTreesOf program files names dot text = DrawsTrees program files names dot text
    ⊎ ((name : List ℕ) × IsUnknown program names name × (text ≡ unknown_line name))

-- a beginning of such a text is written, or one of the report of faults
abbrev pub CutsTrees : List SourceFile → List (List ℕ) → (dot : Bool) → (old new : Option (List ℕ)) → Type 0
CutsTrees files names dot old new = ((program : Program) × IsProgramOf files program
    × ((text : List ℕ) × TellsTreesOf program files names dot text × AppendsBeginning old new text)) ⊎ CutsFaults false files old new
