use Rattle.isle_missing.proofs.Steps.{open_told, nothing_told, only_told, equals_told}
use Rattle.isle_missing.proofs.search.refuse.Goals as goal

pub returns-in-Open : goal.returns-in-Open
returns-in-Open c =
    open_told c.args.sites.now c.args.demand c.in-Passes.site c.in-Passes.test c.args.facts.now.items c.push.new.self.items c.deref.result.now
    c.args.rows.now.items c.where_fails.new.rows.items c.in-Passes.is c.in_ok-push.ensures.items c.deref.ensures.value c.in-Open.ensures
    c.where_fails.ensures

pub returns-in-Nothing : goal.returns-in-Nothing
returns-in-Nothing c =
    nothing_told c.args.sites.now c.args.demand c.in-Passes.site c.in-Passes.test c.args.facts.now.items c.push.new.self.items c.deref.result.now
    c.args.rows.now.items c.where_fails.new.rows.items c.in-Passes.is c.in_ok-push.ensures.items c.deref.ensures.value c.in-Nothing.ensures

pub returns-in_ok-add_apart-in-Same : goal.returns-in_ok-add_apart-in-Same
returns-in_ok-add_apart-in-Same c =
    equals_told c.args.sites.now c.args.demand c.in-Same.first c.in-Same.second c.args.facts.now.items c.push.new.self.items c.args.rows.now.items
    c.where_fails.new.rows.items c.add_apart.new.rows.items c.in-Same.is c.in_ok-push.ensures.items c.where_fails.ensures
    c.in_ok-add_apart-in-Same.ensures

pub returns-in_ok-rows-in-Only : goal.returns-in_ok-rows-in-Only
returns-in_ok-rows-in-Only c =
    only_told c.args.sites.now c.args.demand c.in-Passes.site c.in-Passes.test c.in-Only.test c.args.facts.now.items c.push.new.self.items
    c.deref.result.now c.push-in-Only.new.self.items c.args.rows.now.items c.where_fails.new.rows.items c.deref-in-Only.result.now
    c.in_ok-rows-in-Only.field-0.items c.in-Passes.is c.in_ok-push.ensures.items c.deref.ensures.value c.in-Only.ensures
    c.in_ok-push-in-Only.ensures.items c.where_fails.ensures c.deref-in-Only.ensures.value c.in_ok-rows-in-Only.ensures
