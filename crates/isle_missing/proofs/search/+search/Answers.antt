use Rattle.std.proofs.Common.{arith, ◌≡◌, ◌∙◌, ap, length, Some}
use Rattle.isle_missing.specs.declared.search.Answer.{Answer}
use Rattle.isle_missing.proofs.Steps.{alone_branch, covered_told, missing_branch_told, matches_told, missing_told, goes_on_told, all_covered_told, more_left, more_before, covered_end, missing_end}
use Rattle.isle_missing.proofs.search.+search.Goals as goal

pub accept-returns-then-alone-clause-found : goal.accept-returns-then-alone-clause-found
accept-returns-then-alone-clause-found t c = alone_branch _ _ _ _ (c.requires c.if-alone.true)

pub accept-returns-in-Covered-clause-found : goal.accept-returns-in-Covered-clause-found
accept-returns-in-Covered-clause-found t c =
    let known : c.len-known.result ≡ length c.args.facts.now.items = let o = c.args.facts.now.ok.0 in let n = c.len-known.ensures in omega arith in
    covered_told c.args.sites.now c.args.rows.now c.in_ok-left.left.items c.args.demand c.args.facts.now.items c.push.new.self.items
    c.search.new.facts.items c.truncate.new.self.items c.in_ok-search.field-0 c.len-known.result c.in_ok-push.ensures.items c.in_ok-left.ensures
    c.in-Covered.is c.in_ok-search.ensures.found c.in_ok-search.ensures.kept known c.truncate.ensures.items

pub accept-returns-in-Missing-clause-found : goal.accept-returns-in-Missing-clause-found
accept-returns-in-Missing-clause-found t c =
    missing_branch_told c.args.sites.now c.args.rows.now c.in_ok-left.left.items c.args.demand c.args.facts.now.items c.push.new.self.items
    c.search.new.facts.items c.in_ok-search.field-0 c.in_ok-push.ensures.items c.in_ok-left.ensures c.in-Missing.is c.in_ok-search.ensures.found

pub round-returns-in-Matches-clause-found : goal.round-returns-in-Matches-clause-found
round-returns-in-Matches-clause-found t c =
    matches_told c.args.sites.now c.args.rows.now.items c.deref.result.now c.args.rows.now.items c.args.facts.now.items c.deref.ensures.value
    c.in-Matches.ensures

pub round-returns-in-Missing-clause-found : goal.round-returns-in-Missing-clause-found
round-returns-in-Missing-clause-found t c =
    missing_told c.args.sites.now c.args.rows.now.items c.deref-2.result.now c.args.rows.now.items c.in-Ask.demand c.args.facts.now.items
    c.accept.new.facts.items c.in_ok-accept.field-0 c.deref-2.ensures.value c.in-Missing.is c.in_ok-accept.ensures.found

pub round-returns-then-branch-clause-found : goal.round-returns-then-branch-clause-found
round-returns-then-branch-clause-found t c =
    goes_on_told c.args.sites.now c.args.rows.now.items c.deref.result.now c.deref-2.result.now c.refuse.new.rows.items c.in-Ask.demand
    c.in-Ask.ensures.0 c.args.facts.now.items c.accept.new.facts.items c.refuse.new.facts.items c.in_ok-accept.field-0 c.in_ok-refuse.field-0
    c.deref.ensures.value c.deref-2.ensures.value c.in-Ask.ensures.1 c.in-Covered.is c.if-branch.true c.in_ok-accept.ensures.found
    c.in_ok-refuse.ensures

pub round-returns-else-branch-clause-found : goal.round-returns-else-branch-clause-found
round-returns-else-branch-clause-found t c =
    all_covered_told c.args.sites.now c.args.rows.now.items c.deref.result.now c.deref-2.result.now c.refuse.new.rows.items c.in-Ask.demand
    c.in-Ask.ensures.0 c.args.facts.now.items c.accept.new.facts.items c.refuse.new.facts.items c.in_ok-accept.field-0 c.in_ok-refuse.field-0
    c.deref.ensures.value c.deref-2.ensures.value c.in-Ask.ensures.1 c.in-Covered.is c.if-branch.false c.in_ok-accept.ensures.found
    c.in_ok-refuse.ensures

pub search-loop-rows-preserved : goal.search-loop-rows-preserved
search-loop-rows-preserved t c = record {
  left = more_left c.args.sites.now c.args.facts.now.items c.loop-rows.facts.items c.round.new.facts.items c.args.rows.items c.loop-rows.rows.items
      c.round.new.rows.items c.in_ok-round.field-0 c.loop-rows.invariant.left c.in-None.is c.in_ok-round.ensures.found;
  before = more_before c.args.sites.now c.args.facts.now.items c.loop-rows.facts.items c.round.new.facts.items c.loop-rows.rows.items
      c.round.new.rows.items c.in_ok-round.field-0 c.loop-rows.invariant.before c.in-None.is c.in_ok-round.ensures.found;
  fewer = omega (arith, c.loop-rows.invariant.fewer, c.in_ok-round.ensures.no_more);
}

pub search-returns-in-Some-Covered-clause-found : goal.search-returns-in-Some-Covered-clause-found
search-returns-in-Some-Covered-clause-found t c =
    covered_end c.args.sites.now c.args.facts.now.items c.loop-rows.facts.items c.round.new.facts.items c.args.rows.items c.loop-rows.rows.items
    c.round.new.rows.items c.in_ok-round.field-0 c.loop-rows.invariant.left
    (c.in-Some-Covered.is ∙ ap (λ (a : Answer). Some a) c.in-Some-Covered.field-0-is)
    c.in_ok-round.ensures.found

pub search-returns-in-Some-Missing-clause-found : goal.search-returns-in-Some-Missing-clause-found
search-returns-in-Some-Missing-clause-found t c =
    missing_end c.args.sites.now c.args.facts.now.items c.loop-rows.facts.items c.round.new.facts.items c.args.rows.items c.loop-rows.rows.items
    c.round.new.rows.items c.in_ok-round.field-0 c.loop-rows.invariant.left
    (c.in-Some-Missing.is ∙ ap (λ (a : Answer). Some a) c.in-Some-Missing.field-0-is)
    c.in_ok-round.ensures.found
