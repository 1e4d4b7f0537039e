use Rattle.std.proofs.Common.{List}
use Rattle.isle_trees.specs.Builds.{Builds}
use Rattle.isle_blocks.specs.Trees.Nodes.{Piece, first_steps, read}
use Rattle.isle_blocks.specs.Inside.Trees.Builder.{rules_in, scope_of}
use Rattle.isle_blocks.specs.Inside.Trees.Work.{AreDue, AreOfRules, AreTasks, sizes}
use Rattle.isle_blocks.proofs.rule_set.RuleSet.lay_out.Given as goal

abbrev pub invariant-work : goal.invariant-work
invariant-work l = record {
  valid : AreTasks l.self l.work.items;
  told : AreOfRules l.self l.nodes.items;
  so_far : (pieces : List Piece) → AreDue l.self l.work.items pieces
      → Builds (rules_in l.self) l.fn.left.items (scope_of l.self l.fn.known) (first_steps (read l.nodes.items pieces));
}

abbrev pub decreases-work : goal.decreases-work
decreases-work l = sizes l.self l.work.items
