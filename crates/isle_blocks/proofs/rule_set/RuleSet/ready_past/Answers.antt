use Rattle.std.proofs.Common.{◌++◌, List, ℕ, ap, sym, ◌∙◌}
use Rattle.std.specs.List.{filter}
use Rattle.isle_trees.proofs.Building.Lists.{filter_append}
use Rattle.isle_blocks.specs.Rows.{numbers_of}
use Rattle.isle_blocks.specs.Inside.Trees.Builder.{scope_of, users_at}
use Rattle.isle_blocks.specs.Inside.Trees.Marking.{is_testable}
use Rattle.isle_blocks.proofs.rule_set.RuleSet.ready_past.Goals as goal

pub returns : goal.returns
returns c =
    let p = is_testable (users_at c.args.index.now) (scope_of c.args.self.now c.args.known.now) c.args.marks.now in
    c.in_ok-add_ready-2.ensures ∙ ap (λ (l : List ℕ). l ++ filter p (numbers_of c.args.more.now))
    (c.in_ok-add_ready.ensures ∙ ap (λ (l : List ℕ). l ++ filter p (numbers_of c.args.before.now)) (ap numbers_of c.new-ready.ensures.items))
    ∙ sym (filter_append p (numbers_of c.args.before.now) (numbers_of c.args.more.now))
