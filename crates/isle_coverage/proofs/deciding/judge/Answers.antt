use Rattle.std.proofs.Common.{List, sym, subst}
use Rattle.std.specs.List.{AllZip}
use Rattle.isle_missing.specs.declared.demand.Demand.{Demand}
use Rattle.isle_missing.specs.declared.facts.Fact.{Fact}
use Rattle.isle_missing.specs.Search.{CoverageIs, IsExample, MatchesAlways, MissesUnder}
use Rattle.isle_missing.specs.Sites.{Sites}
use Rattle.isle_coverage.specs.Inside.Less.{DemandsLess}
use Rattle.isle_coverage.proofs.Covering.{misses_more}
use Rattle.isle_coverage.proofs.deciding.judge.Goals as goal

pub returns-in-Missing : goal.returns-in-Missing
returns-in-Missing c =
    let rows : List (List Demand) = c.args.numbered.now.rows.items in
    let less : List (List Demand) = c.in_ok-less.less.items in
    let facts : List Fact = c.in-Missing.facts.items in
    let example : IsExample c.as_slice-sites.result.now c.as_slice.result.now facts =
    subst (CoverageIs c.as_slice-sites.result.now c.as_slice.result.now) c.in-Missing.is c.in_ok-facts.ensures in
    let misses : MissesUnder facts less = subst (MissesUnder facts) c.as_slice.ensures.value (example.1) in
    let zip : AllZip DemandsLess rows less =
    subst (λ (l : List (List Demand)). AllZip DemandsLess l less) c.as_slice-rows.ensures.value c.in_ok-less.ensures in
    let all : MissesUnder facts rows = misses_more facts rows less zip misses in
    c.missing.ensures c.args.numbered.now (sym c.as_slice-tests.ensures.tests)
    (subst (λ (l : List Fact). MissesUnder l rows) (sym c.as_slice-in-Missing.ensures.value) all)

pub returns-in-Covered : goal.returns-in-Covered
returns-in-Covered c =
    let always : MatchesAlways c.as_slice-sites.result.now c.as_slice-rows.result.now =
    subst (CoverageIs c.as_slice-sites.result.now c.as_slice-rows.result.now) c.in-Covered.is c.in_ok-decide.ensures in
    subst (λ (l : List (List Demand)). MatchesAlways c.args.numbered.now.sites.items l) c.as_slice-rows.ensures.value
    (subst (λ (l : Sites). MatchesAlways l c.as_slice-rows.result.now) c.as_slice-sites.ensures.value always)

pub returns-in-Missing-2 : goal.returns-in-Missing-2
returns-in-Missing-2 c =
    let rows : List (List Demand) = c.args.numbered.now.rows.items in
    let facts : List Fact = c.in-Missing-2.facts.items in
    let example : IsExample c.as_slice-sites.result.now c.as_slice-rows.result.now facts =
    subst (CoverageIs c.as_slice-sites.result.now c.as_slice-rows.result.now) c.in-Missing-2.is c.in_ok-decide.ensures in
    let misses : MissesUnder facts rows = subst (MissesUnder facts) c.as_slice-rows.ensures.value (example.1) in
    c.missing-in-Missing-2.ensures c.args.numbered.now (sym c.as_slice-tests.ensures.tests)
    (subst (λ (l : List Fact). MissesUnder l rows) (sym c.as_slice-in-Missing-2.ensures.value) misses)
