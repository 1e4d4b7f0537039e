use Rattle.std.proofs.Common.{take}
use Rattle.isle_trees.specs.Ranking.{IsRanked}
use Rattle.isle_trees.specs.Rules.{Elem}
use Rattle.isle_blocks.specs.declared.ids.BindingId.{BindingId}
use Rattle.isle_blocks.specs.Inside.Trees.Best.{IsSitePassed}
use Rattle.isle_blocks.specs.Inside.Trees.Builder.{best_shown, rules_in, scope_of}
use Rattle.isle_blocks.proofs.rule_set.RuleSet.best_of.Given as goal

abbrev pub invariant-loop-site : goal.invariant-loop-site
invariant-loop-site l = record {
  ranked : IsRanked (rules_in l.self) l.left (scope_of l.self l.known) (best_shown l.best);
  passed : (x : BindingId) → Elem x (take l.site-index l.sites)
      → IsSitePassed (rules_in l.self) l.left (scope_of l.self l.known) l.marks (best_shown l.best) x;
}
