use Rattle.std.proofs.Common.{rules, ap, ◌+◌, ◌≡◌, ◌∙◌, ℕ, List, length}
use Rattle.std.proofs.lemmas.List.{take_rest}
use Rattle.isle_trees.specs.Search.{front}
use Rattle.isle_trees.specs.Rules.{below}
use Rattle.isle_trees.proofs.Building.Runs.{run_of, ordered_tests}
use Rattle.isle_blocks.specs.Inside.Trees.Builder.{rules_in}
use Rattle.isle_blocks.proofs.rule_set.RuleSet.run.Goals as goal

pub returns : goal.returns
returns c =
    let set = c.args.self.now in
    let R = rules_in set in
    let n : c.len.result ≡ length c.in_ok-rules.rules.items = search rules in
    run_of R c.args.site.0 c.args.start c.args.group.now c.args.test c.in_ok-rules.rules.items (c.args.start + c.len.result)
    (ordered_tests R (length set.sites) (below (length set.rules)) c.requires.set)
    c.requires.start c.requires.grouped c.requires.want c.requires.test
    (c.in_ok-rules.ensures ∙ ap (λ (xs : List ℕ). front R c.args.site.0 c.args.test xs) (take_rest c.args.group.now c.args.start))
    (ap (λ (x : ℕ). c.args.start + x) n)
