use Rattle.std.proofs.Common.{◌≤◌, ℕ, List, subst, sym, ◌∙◌, ap, arith, length}
use Rattle.isle_trees.specs.Rules.{Elem}
use Rattle.isle_trees.specs.Scopes.{counted, counts}
use Rattle.isle_trees.proofs.Building.Bound.{counted_short}
use Rattle.isle_trees.proofs.Building.Lists.{filter_small}
use Rattle.isle_blocks.specs.Inside.Trees.Builder.{rules_in, users_at}
use Rattle.isle_blocks.proofs.rule_set.RuleSet.most.Goals as goal

pub returns : goal.returns
returns c = λ t first.
    let e = c.users.ensures ∙ ap (users_at c.args.index.now) (sym first) in
    let listed : length (counted (rules_in c.args.self.now) t c.args.left.now) ≤ length c.users.result.now =
    counted_short (rules_in c.args.self.now) c.args.left.now c.users.result.now t c.requires.order
    (λ i h. let P : List ℕ → Type 0 = λ l. Elem i l in subst P (sym e) (c.requires.index.is.used i t h)) in
    let small : length (counted (rules_in c.args.self.now) t c.args.left.now) ≤ length c.args.left.now =
    filter_small (counts (rules_in c.args.self.now) t c.args.left.now) c.args.left.now in
    grind (arith, listed, small)
