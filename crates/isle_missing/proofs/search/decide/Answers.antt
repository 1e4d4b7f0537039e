use Rattle.isle_missing.proofs.Steps.{covered_all}
use Rattle.isle_missing.proofs.search.decide.Goals as goal

pub returns-in-Covered : goal.returns-in-Covered
returns-in-Covered c =
    covered_all c.args.sites.now c.new-facts.result.items c.search.new.facts.items c.in_ok-rows.rows.items c.args.rules.now c.in_ok-search.field-0
    c.in_ok-rows.ensures c.new-facts.ensures.items c.in-Covered.is c.in_ok-search.ensures.found
