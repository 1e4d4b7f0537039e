use Rattle.std.proofs.Common.{◌<ℤ◌, ℕ, List, Option, arith, get_or, subst, sym}
use Rattle.std.proofs.lemmas.Int.{ints}
use Rattle.isle_trees.specs.Ranking.{Ranked}
use Rattle.isle_trees.specs.Scopes.{on_equal}
use Rattle.isle_trees.specs.Search.{top}
use Rattle.isle_blocks.specs.declared.ids.BindingId.{BindingId}
use Rattle.isle_blocks.specs.Inside.Trees.Best.{IsRulePassed}
use Rattle.isle_blocks.specs.Inside.Trees.Builder.{AreClasses, best_shown, rules_in, scope_of}
use Rattle.isle_blocks.proofs.Trees.Considered.{passed_more, rule_passed, still_ranked, top_front}
use Rattle.isle_blocks.proofs.rule_set.RuleSet.consider_equalities.Goals as goal

pub returns-then-priority-top-clause-passed : goal.returns-then-priority-top-clause-passed
returns-then-priority-top-clause-passed c = λ i m q.
    let p = c.priority.ensures in
    let t = c.top-top.ensures in
    let l : (rules_in c.args.self.now).prio (get_or c.args.left.now c.loop-rule.rule-index 0) <ℤ top (rules_in c.args.self.now) c.args.left.now =
    omega (arith, ints, p, t, c.if-priority-top.true) in
    c.loop-rule.invariant.passed i (top_front (rules_in c.args.self.now) c.args.left.now c.loop-rule.rule-index
    i c.requires.order c.loop-rule-test.true l m q)

pub loop-rule-preserved : goal.loop-rule-preserved
loop-rule-preserved c =
    let R = rules_in c.args.self.now in
    let sc = scope_of c.args.self.now c.args.known.now in
    let left = c.args.left.now in
    let marks = c.args.marks.now in
    let P : Option Ranked → ℕ → Type 0 = λ best i. IsRulePassed R left sc marks best i in
    let now = c.consider_classes-best.ensures in
    let i = get_or left c.loop-rule.rule-index 0 in
    let listed : AreClasses c.args.self.now i c.classes.result.now =
    subst (λ (l : List (List BindingId)). AreClasses c.args.self.now i l) (sym c.classes.ensures) (c.requires.index.classes i) in
    record {
      kept = still_ranked R left sc (best_shown c.args.best) (best_shown c.loop-rule.best) (best_shown c.consider_classes-best.result)
          c.loop-rule.invariant.kept now.kept;
      passed = passed_more left c.loop-rule.rule-index 0 (P (best_shown c.loop-rule.best)) (P (best_shown c.consider_classes-best.result))
          c.loop-rule-test.true (λ i h a b j r. now.kept.kept (on_equal a b) (h a b j r))
          (rule_passed c.args.self.now left sc marks (best_shown c.consider_classes-best.result) i c.classes.result.now listed now.passed)
          c.loop-rule.invariant.passed;
    }
