use Rattle.std.proofs.Common.{Option}
use Rattle.isle_trees.specs.Ranking.{Ranked}
use Rattle.isle_trees.specs.Scopes.{on_equal}
use Rattle.isle_blocks.specs.declared.ids.BindingId.{BindingId}
use Rattle.isle_blocks.specs.Inside.Trees.Best.{IsPassed}
use Rattle.isle_blocks.specs.Inside.Trees.Builder.{best_shown, rules_in, scope_of}
use Rattle.isle_blocks.proofs.Trees.Considered.{passed_more, still_ranked}
use Rattle.isle_blocks.proofs.rule_set.RuleSet.consider_each.Goals as goal

pub loop-b-preserved : goal.loop-b-preserved
loop-b-preserved c =
    let R = rules_in c.args.self.now in
    let sc = scope_of c.args.self.now c.args.known.now in
    let left = c.args.left.now in
    let marks = c.args.marks.now in
    let P : Option Ranked → BindingId → Type 0 = λ best b. IsPassed R left sc marks best (on_equal c.args.a.0 b.0) in
    let now = c.consider_ready-best.ensures in
    record {
      kept = still_ranked R left sc (best_shown c.args.best) (best_shown c.loop-b.best) (best_shown c.consider_ready-best.result)
          c.loop-b.invariant.kept now.kept;
      passed = passed_more c.args.class.now c.loop-b.b-index (record { 0 = 0 }) (P (best_shown c.loop-b.best))
          (P (best_shown c.consider_ready-best.result))
          c.loop-b-test.true (λ b h r. now.kept.kept (on_equal c.args.a.0 b.0) (h r)) now.passed c.loop-b.invariant.passed;
    }
