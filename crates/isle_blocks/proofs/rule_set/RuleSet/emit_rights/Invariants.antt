use Rattle.std.proofs.Common.{take}
use Rattle.isle_trees.specs.Ranking.{EmitsEach}
use Rattle.isle_blocks.specs.Rows.{numbers_of}
use Rattle.isle_blocks.specs.Inside.Trees.Builder.{rules_in, scope_of}
use Rattle.isle_blocks.specs.Inside.Trees.Work.{IsSameKnown}
use Rattle.isle_blocks.proofs.rule_set.RuleSet.emit_rights.Given as goal

abbrev pub invariant-loop-site : goal.invariant-loop-site
invariant-loop-site l = record {
  each : EmitsEach (rules_in l.self) (scope_of l.self l.initial.known) (numbers_of (take l.site-index l.sites))
      (numbers_of l.initial.order.items) (numbers_of l.order.items) (scope_of l.self l.known);
  same : IsSameKnown l.initial.known l.known;
}
