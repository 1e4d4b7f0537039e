use Rattle.std.proofs.lemmas.Result.{err_from_is_err_and}
use Rattle.isle_rules.specs.Visits.InternedTrees.{pattern_of}
use Rattle.isle_rules.proofs.Visiting.VisitRuns.{waits}
use Rattle.isle_rules.proofs.Visiting.VisitTrees.{pattern-BindPattern}
use Rattle.isle_rules.proofs.+visit_pattern.Goals as goal

pub rules::Pattern::visit-returns-in_err-bind-in-BindPattern : goal.rules::Pattern::visit-returns-in_err-bind-in-BindPattern
rules::Pattern::visit-returns-in_err-bind-in-BindPattern g t c =
    let p = err_from_is_err_and c.from_residual.result c.from_residual.ensures.1 in
    rw (p.1, p.2, c.in-BindPattern.is, pattern-BindPattern)
    (waits g.V.PatternVisitor.pattern_step c.args.termenv.now.terms
    (pattern_of c.in-BindPattern.subpat) _ _ _ _ c.in_err-bind-in-BindPattern.ensures.refused)
