use Rattle.std.proofs.Common.{◌∙◌, List, Option, subst}
use Rattle.isle_trees.specs.Ranking.{Ranked}
use Rattle.isle_trees.specs.Scopes.{on_equal}
use Rattle.isle_blocks.specs.declared.ids.BindingId.{BindingId}
use Rattle.isle_blocks.specs.Inside.Trees.Best.{IsClassPassed}
use Rattle.isle_blocks.specs.Inside.Trees.Builder.{best_shown, rules_in, scope_of}
use Rattle.isle_blocks.proofs.Trees.Considered.{passed_more, still_ranked}
use Rattle.isle_blocks.proofs.rule_set.RuleSet.consider_classes.Goals as goal

pub loop-class-preserved : goal.loop-class-preserved
loop-class-preserved c =
    let R = rules_in c.args.self.now in
    let sc = scope_of c.args.self.now c.args.known.now in
    let left = c.args.left.now in
    let marks = c.args.marks.now in
    let P : Option Ranked → List BindingId → Type 0 = λ best class. IsClassPassed R left sc marks best class in
    let now = c.consider_class-best.ensures in
    let last = subst (P (best_shown c.consider_class-best.result)) (c.as_slice.ensures ∙ c.class-item.is) now.passed in
    record {
      kept = still_ranked R left sc (best_shown c.args.best) (best_shown c.loop-class.best) (best_shown c.consider_class-best.result)
          c.loop-class.invariant.kept now.kept;
      passed = passed_more c.args.classes.now c.loop-class.class-index c.class-item.result (P (best_shown c.loop-class.best))
          (P (best_shown c.consider_class-best.result))
          c.loop-class-test.true (λ class h a k b m r. now.kept.kept (on_equal a.0 b.0) (h a k b m r)) last c.loop-class.invariant.passed;
    }
