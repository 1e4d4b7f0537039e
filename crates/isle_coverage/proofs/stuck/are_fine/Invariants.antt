use Rattle.std.proofs.Common.{All, List, take}
use Rattle.isle_ast.specs.Positions.Files.{SourceFile}
use Rattle.isle_program.specs.Compiled.{IsProgramOf}
use Rattle.isle_coverage.specs.Inside.Reached.{IsFine}
use Rattle.isle_coverage.proofs.stuck.are_fine.Given as goal

-- the terms so far are partial or covered
abbrev pub invariant-loop-term : goal.invariant-loop-term
invariant-loop-term l = (files : List SourceFile) → IsProgramOf files l.program → All (IsFine l.program l.marks) (take l.term-index l.terms)
