use Rattle.std.proofs.Common.{sym, ◌∙◌}
use Rattle.isle_trees.proofs.Building.Best.{better_old, better_new}
use Rattle.isle_trees.proofs.Building.Bound.{passed_over}
use Rattle.isle_blocks.specs.Inside.Trees.Builder.{best_shown, rules_in, scope_of, test_shown, key_shown}
use Rattle.isle_blocks.proofs.rule_set.RuleSet.consider.Goals as goal

pub returns-clause-old : goal.returns-clause-old
returns-clause-old c u h = rw c.better.ensures (better_old _ _ _ (best_shown c.args.best) _ u c.requires.ranked h)

pub returns-clause-new : goal.returns-clause-new
returns-clause-new c = rw c.better.ensures
    (better_new (rules_in c.args.self.now) c.args.left.now (scope_of c.args.self.now c.args.known.now) (best_shown c.args.best)
    (record { test = test_shown c.args.test; key = key_shown c.key-key.result }) c.key-key.ensures)

pub returns-then-not-may_win-clause-new : goal.returns-then-not-may_win-clause-new
returns-then-not-may_win-clause-new c =
    passed_over (rules_in c.args.self.now) c.args.left.now (scope_of c.args.self.now c.args.known.now) (best_shown c.args.best)
    (test_shown c.args.test)
    c.args.most c.requires.most (sym (c.may_win.ensures c.args.self.now) ∙ c.if-not-may_win.true)
