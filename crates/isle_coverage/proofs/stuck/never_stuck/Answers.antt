use Rattle.std.proofs.Common.{All, subst, sym, ◌∙◌}
use Rattle.isle_program.specs.Programs.{rules_in}
use Rattle.isle_coverage.specs.Inside.Reached.{IsMarked, KeepsMarks}
use Rattle.isle_coverage.proofs.Reached.{never_stuck_where_marked}
use Rattle.isle_coverage.proofs.stuck.never_stuck.Goals as goal

pub returns : goal.returns
returns c = λ e files compiled may.
    let marks = c.as_slice-marks.result.now in
    let kept : All (KeepsMarks marks) (rules_in c.args.program.now) =
    subst (λ l. All (KeepsMarks marks) l) c.rules.ensures (c.in_ok-are_closed.ensures c.if-not-branch.false) in
    never_stuck_where_marked c.args.program.now marks kept c.terms_with_rules.result.now c.terms_with_rules.ensures
    (c.in_ok-fine.ensures e files compiled) c.args.term.0
    (subst (IsMarked marks) c.index.ensures (sym c.is_marked.ensures ∙ c.if-not-is_marked.false)) may
