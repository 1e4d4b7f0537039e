use Rattle.std.proofs.Common.{refl, sym, ◌∙◌}
use Rattle.isle_trees.specs.Scopes.{on_equal}
use Rattle.isle_blocks.specs.Inside.Trees.Builder.{best_shown, rules_in, scope_of}
use Rattle.isle_blocks.proofs.Trees.Considered.{row_passed}
use Rattle.isle_blocks.proofs.rule_set.RuleSet.consider_row.Goals as goal

pub returns-then-not-may_join-clause-passed : goal.returns-then-not-may_join-clause-passed
returns-then-not-may_join-clause-passed c =
    row_passed (rules_in c.args.self.now) c.args.left.now (scope_of c.args.self.now c.args.known.now) c.args.marks.now c.args.class.now
    (best_shown c.args.best) c.args.a c.most-most.result (λ b. c.most-most.ensures (on_equal c.args.a.0 b) refl)
    (sym c.may_join.ensures ∙ c.if-not-may_join.true)
