use Rattle.std.proofs.Common.{subst}
use Rattle.std.specs.List.{AllZip}
use Rattle.isle_coverage.specs.Inside.Types.{IsSiteOf}
use Rattle.isle_coverage.proofs.Knowing.{sites_known}
use Rattle.isle_coverage.proofs.sites.sites_of.Goals as goal

pub returns-clause-known : goal.returns-clause-known
returns-clause-known c =
    let types = c.in_ok-types.types.items in
    let singles = c.in_ok-singles.singles.items in
    let sites = c.in_ok-sites.sites.items in
    sites_known c.args.program.now c.args.set.now.rules c.tests_of_types.new.table types singles c.in_ok-noted.noted.items sites
    c.in_ok-types.ensures.tests c.in_ok-singles.ensures c.in_ok-noted.ensures
    (subst (λ l. AllZip (IsSiteOf types singles) l sites) c.as_slice-4.ensures.value
    (subst (λ l. AllZip (IsSiteOf types l) c.as_slice-4.result.now sites) c.as_slice-3.ensures.value
    (subst (λ l. AllZip (IsSiteOf l c.as_slice-3.result.now) c.as_slice-4.result.now sites) c.as_slice-2.ensures.value c.in_ok-sites.ensures)))
