use Rattle.std.proofs.Common.{Option}
use Rattle.isle_trees.specs.Ranking.{Ranked}
use Rattle.isle_trees.specs.Scopes.{on_equal}
use Rattle.isle_blocks.specs.declared.ids.BindingId.{BindingId}
use Rattle.isle_blocks.specs.Inside.Trees.Best.{IsRowPassed}
use Rattle.isle_blocks.specs.Inside.Trees.Builder.{best_shown, rules_in, scope_of}
use Rattle.isle_blocks.proofs.Trees.Considered.{passed_more, still_ranked}
use Rattle.isle_blocks.proofs.rule_set.RuleSet.consider_class.Goals as goal

pub loop-a-preserved : goal.loop-a-preserved
loop-a-preserved c =
    let R = rules_in c.args.self.now in
    let sc = scope_of c.args.self.now c.args.known.now in
    let left = c.args.left.now in
    let marks = c.args.marks.now in
    let P : Option Ranked → BindingId → Type 0 = λ best a. IsRowPassed R left sc marks c.args.class.now best a in
    let now = c.consider_row-best.ensures in
    record {
      kept = still_ranked R left sc (best_shown c.args.best) (best_shown c.loop-a.best) (best_shown c.consider_row-best.result)
          c.loop-a.invariant.kept now.kept;
      passed = passed_more c.args.class.now c.loop-a.a-index (record { 0 = 0 }) (P (best_shown c.loop-a.best))
          (P (best_shown c.consider_row-best.result))
          c.loop-a-test.true (λ a h b m r. now.kept.kept (on_equal a.0 b.0) (h b m r)) now.passed c.loop-a.invariant.passed;
    }
