use Rattle.std.proofs.Common.{rules}
use Rattle.std.proofs.lemmas.Result.{err_from_is_err_and}
use Rattle.isle_blocks.specs.Inside.Building.Gathering.{nothing_gathered}
use Rattle.isle_blocks.proofs.Building.Defined.{built_as_defined, uses_defined}
use Rattle.isle_blocks.proofs.Building.Overfull.{builds_too_many}
use Rattle.isle_blocks.proofs.Building.Refused.{visit_refused}
use Rattle.isle_blocks.proofs.builder.build_rule.Goals as goal

pub returns-in_err-builder-clause-run : goal.returns-in_err-builder-clause-run
returns-in_err-builder-clause-run c =
    let p = err_from_is_err_and c.from_residual.result c.from_residual.ensures.1 in
    rw (p.1, p.2) (nothing_gathered, visit_refused c.args.termenv.now.terms c.args.rule.now nothing_gathered)

pub returns-clause-built : goal.returns-clause-built
returns-clause-built c =
    let inside = c.builder.inside in
    built_as_defined c.args.termenv.now c.args.rule.now
    (record { sites = inside.sites; has = inside.has; same = inside.same; impure = inside.impure; result = c.in_ok-result.result })
    (search rules)

pub returns-in_err-result-clause-defined : goal.returns-in_err-result-clause-defined
returns-in_err-result-clause-defined c = uses_defined c.args.termenv.now c.args.rule.now c.from_residual-in_err-result.result (search rules)

pub returns-in_err-result-clause-full : goal.returns-in_err-result-clause-full
returns-in_err-result-clause-full c = builds_too_many c.args.termenv.now c.args.rule.now c.from_residual-in_err-result.result (search rules)
