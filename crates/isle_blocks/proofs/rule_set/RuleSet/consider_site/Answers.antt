use Rattle.isle_trees.specs.Scopes.{on_match}
use Rattle.isle_blocks.specs.Inside.Trees.Builder.{best_shown, rules_in, scope_of}
use Rattle.isle_blocks.proofs.Trees.Considered.{still_ranked}
use Rattle.isle_blocks.proofs.rule_set.RuleSet.consider_site.Goals as goal

pub returns : goal.returns
returns c = record {
  kept = still_ranked (rules_in c.args.self.now) c.args.left.now (scope_of c.args.self.now c.args.known.now) (best_shown c.args.best)
      (best_shown c.consider_ready-first.result) (best_shown c.consider_ready.result) c.consider_ready-first.ensures.kept
      c.consider_ready.ensures.kept;
  passed = record {
    by_match = λ r. c.consider_ready.ensures.kept.kept (on_match c.args.site.0) (c.consider_ready-first.ensures.passed r);
    by_loop = λ r. c.consider_ready.ensures.passed r;
  };
}
