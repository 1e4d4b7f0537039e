use Rattle.std.proofs.Common.{take, ◌≡◌}
use Rattle.isle_blocks.specs.Rows.{numbers_of}
use Rattle.isle_blocks.specs.Trees.View.{calls_at}
use Rattle.isle_blocks.proofs.rule_set.RuleSet.rights.Given as goal

abbrev pub invariant-loop-site : goal.invariant-loop-site
invariant-loop-site l = numbers_of l.all.items ≡ calls_at l.self.sites (take l.site-index l.site-items)
