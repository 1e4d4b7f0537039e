use Rattle.std.proofs.Common.{ap, ◌∙◌, ℕ}
use Rattle.isle_trees.specs.Ranking.{key_with}
use Rattle.isle_trees.proofs.Building.Bound.{key_is}
use Rattle.isle_blocks.specs.Inside.Trees.Builder.{rules_in, scope_of, test_shown}
use Rattle.isle_blocks.proofs.rule_set.RuleSet.key.Goals as goal

pub returns : goal.returns
returns c =
    let R = rules_in c.args.self.now in
    let sc = scope_of c.args.self.now c.args.known.now in
    c.key_with.ensures c.args.self.now ∙ ap (λ (n : ℕ). key_with sc n (test_shown c.args.test)) c.count.ensures
    ∙ key_is R c.args.left.now sc (test_shown c.args.test)
