use Rattle.std.proofs.Common.{List, sym, subst}
use Rattle.isle_blocks.specs.Inside.FaultKeys.{AreKeys, Key}
use Rattle.isle_blocks.proofs.faults.faults_between.Goals as goal

pub returns-clause-overlaps : goal.returns-clause-overlaps
returns-clause-overlaps c =
    c.in_ok-pairs_with.ensures c.in_ok-site.site
    (subst (λ (keys : List Key). AreKeys c.in_ok-site.site c.args.rules.now keys) (sym c.as_slice.ensures.value) c.in_ok-keys.ensures)

pub returns-clause-shadows : goal.returns-clause-shadows
returns-clause-shadows c =
    c.in_ok-pairs_with-2.ensures c.in_ok-site.site
    (subst (λ (keys : List Key). AreKeys c.in_ok-site.site c.args.rules.now keys) (sym c.as_slice-2.ensures.value) c.in_ok-keys.ensures)
