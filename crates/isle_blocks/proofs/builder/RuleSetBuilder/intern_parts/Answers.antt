use Rattle.std.proofs.Common.{◌+◌, ◌-◌, ◌∷◌, [], ◌++◌, Ok, Err, inl, inr, refl}
use Rattle.std.proofs.lemmas.Result.{err_from_is_err_and}
use Rattle.isle_rules.proofs.Visiting.VisitRuns.{went}
use Rattle.isle_rules.proofs.Visiting.VisitRuleRuns.{left}
use Rattle.isle_blocks.specs.Inside.Building.Gathering.{interns, interns_each, sites_from}
use Rattle.isle_blocks.specs.Inside.Building.Parts.{part_site}
use Rattle.isle_blocks.proofs.Building.Waiting.{none_left, each_waits}
use Rattle.isle_blocks.proofs.builder.RuleSetBuilder.intern_parts.Goals as goal

pub returns-in_err-id : goal.returns-in_err-id
returns-in_err-id c =
    let p = err_from_is_err_and c.from_residual.result c.from_residual.ensures.1 in
    rw (p.1, p.2) (c.loop-field.invariant (Err c.in_err-id.field-0.0) c.intern.new.self
    (rw (left c.args.count.0 c.loop-field.field c.loop-field-test.true) (inl (rw c.site.ensures at c.in_err-id.ensures))))

pub returns-in_err-push : goal.returns-in_err-push
returns-in_err-push c =
    let p = err_from_is_err_and c.from_residual-in_err-push.result c.from_residual-in_err-push.ensures.1 in
    let at = part_site c.args.parts c.args.source in
    let i = c.loop-field.field in
    let id = c.in_ok-id.id in
    rw (p.1) (c.loop-field.invariant (Err p.0) c.intern.new.self
    (rw (left c.args.count.0 i c.loop-field-test.true)
    (inr (
      id,
      c.intern.new.self,
      rw c.site.ensures at c.in_ok-id.ensures,
      each_waits (sites_from at (i + 1) (c.args.count.0 - (i + 1))) (c.loop-field.ids.items ++ id ∷ []) c.intern.new.self p.0 p.2,
    ))))

pub loop-field-preserved : goal.loop-field-preserved
loop-field-preserved c = λ o s rest.
    let at = part_site c.args.parts c.args.source in
    let i = c.loop-field.field in
    let others = sites_from at (i + 1) (c.args.count.0 - (i + 1)) in
    c.loop-field.invariant o s (rw (left c.args.count.0 i c.loop-field-test.true)
    (went (interns (at i)) (λ id. interns_each others (c.loop-field.ids.items ++ id ∷ [])) c.in_ok-id.id c.loop-field.self c.intern.new.self o s
    (rw c.site.ensures at c.in_ok-id.ensures) (rw c.in_ok-push.ensures.items at rest)))

pub returns : goal.returns
returns c =
    c.loop-field.invariant (Ok c.loop-field.ids.items) c.loop-field.self
    (rw (none_left c.args.count.0 c.loop-field.field c.loop-field-test.false) (refl, refl))
