use Rattle.std.proofs.Common.{List, subst}
use Rattle.isle_missing.specs.declared.facts.Fact.{Fact}
use Rattle.isle_missing.specs.Search.{IsExample}
use Rattle.isle_missing.proofs.search.told.Goals as goal

pub returns-then-branch : goal.returns-then-branch
returns-then-branch c =
    subst (λ (l : List Fact). IsExample c.args.sites.now c.args.rules.now l) c.as_slice.ensures.value
    (c.in_ok-is_example.ensures c.if-branch.true)

pub returns-then-branch-2 : goal.returns-then-branch-2
returns-then-branch-2 c =
    subst (λ (l : List Fact). IsExample c.args.sites.now c.args.rules.now l) c.as_slice-2.ensures.value
    (c.in_ok-is_example-2.ensures c.if-branch-2.true)
