use Rattle.std.proofs.Common.{◌≡◌, drop, length}
use Rattle.isle_blocks.specs.Inside.Trees.Builder.{scope_of}
use Rattle.isle_blocks.specs.Inside.Trees.Work.{AreGiven}
use Rattle.isle_blocks.proofs.rule_set.RuleSet.returns.Given as goal

abbrev pub invariant-loop-number : goal.invariant-loop-number
invariant-loop-number l = record {
  size : length l.known.emitted ≡ length l.self.sites;
  given : AreGiven l.self l.left (drop l.number-index l.left) (scope_of l.self l.initial.known)
      (scope_of l.self l.known) l.initial.nodes.items l.nodes.items;
}
