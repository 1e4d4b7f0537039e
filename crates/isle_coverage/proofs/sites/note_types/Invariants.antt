use Rattle.std.proofs.Common.{List}
use Rattle.std.specs.Prelude.{Contains}
use Rattle.isle_blocks.specs.declared.rule.Rule.{Rule}
use Rattle.isle_coverage.specs.Inside.Sites.{AreNoted}
use Rattle.isle_coverage.proofs.sites.note_types.Given as goal

-- what is noted so far is so
abbrev pub invariant-loop-place : goal.invariant-loop-place
invariant-loop-place l = (rules : List Rule) → Contains rules l.rule → AreNoted rules l.initial.noted.items → AreNoted rules l.noted.items
