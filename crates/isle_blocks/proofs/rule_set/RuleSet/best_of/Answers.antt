use Rattle.std.proofs.Common.{Option}
use Rattle.isle_trees.specs.Ranking.{Ranked}
use Rattle.isle_trees.specs.Scopes.{on_loop, on_match}
use Rattle.isle_blocks.specs.declared.ids.BindingId.{BindingId}
use Rattle.isle_blocks.specs.Inside.Trees.Best.{IsSitePassed}
use Rattle.isle_blocks.specs.Inside.Trees.Builder.{best_shown, rules_in, scope_of}
use Rattle.isle_blocks.proofs.Trees.Considered.{passed_more}
use Rattle.isle_blocks.proofs.rule_set.RuleSet.best_of.Goals as goal

pub loop-site-preserved : goal.loop-site-preserved
loop-site-preserved c =
    let R = rules_in c.args.self.now in
    let sc = scope_of c.args.self.now c.args.known.now in
    let left = c.args.left.now in
    let marks = c.args.marks.now in
    let P : Option Ranked → BindingId → Type 0 = λ best x. IsSitePassed R left sc marks best x in
    let now = c.consider_site-best.ensures in
    record {
      ranked = now.kept.ranked;
      passed = passed_more c.args.sites.now c.loop-site.site-index (record { 0 = 0 }) (P (best_shown c.loop-site.best))
          (P (best_shown c.consider_site-best.result))
          c.loop-site-test.true (λ x h. record {
            by_match = λ r. now.kept.kept (on_match x.0) (h.by_match r);
            by_loop = λ r. now.kept.kept (on_loop x.0) (h.by_loop r);
          }) now.passed c.loop-site.invariant.passed;
    }
