-- What trees are drawn from, part by part.
use Rattle.std.proofs.Common.{◌≡◌, ℕ, List, Option}
use Rattle.isle_ast.specs.Positions.Files.{SourceFile}
use Rattle.isle_types.specs.declared.ids.TypeId.{TypeId}
use Rattle.isle_blocks.specs.declared.binding.Binding.{Binding}
use Rattle.isle_blocks.specs.declared.rule.Rule.{Rule}
use Rattle.isle_program.specs.declared.program.Program.{Program}
use Rattle.isle_tell.specs.TreeTexts.DotSteps.{Drawn}

-- what a tree is drawn from
abbrev pub made_of : Program → List SourceFile → ℕ → List Rule → List Binding → List (Option TypeId) → Drawn
made_of program files term rules sites types = record { program = program; files = files; term = term; rules = rules; sites = sites; types = types }

-- it is the same where its parts are
pub same_drawn : (program : Program) (files : List SourceFile) (n m : ℕ) (rules own : List Rule) (sites all : List Binding)
    (types told : List (Option TypeId))
    → n ≡ m → rules ≡ own → sites ≡ all → types ≡ told → made_of program files n rules sites types ≡ made_of program files m own all told
same_drawn program files n m rules own sites all types told p q r s = λ i. made_of program files (p i) (q i) (r i) (s i)
