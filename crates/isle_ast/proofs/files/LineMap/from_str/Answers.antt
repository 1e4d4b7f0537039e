use Rattle.std.proofs.Common.{sym, ap, ◌∙◌, subst}
use Rattle.std.specs.List.Sorted.{IsStrictlyIncreasing}
use Rattle.isle_ast.specs.Positions.Lines.{starts_up_to}
use Rattle.isle_ast.proofs.Positions.LineStarts.{line_starts_increase, starts_are_counted}
use Rattle.isle_ast.proofs.files.LineMap.from_str.Goals as goal

pub invariant_of-result : goal.invariant_of-result
invariant_of-result c = subst IsStrictlyIncreasing (sym c.in_ok-starts.ensures) (line_starts_increase c.args.text.now)

pub returns-clause-counts : goal.returns-clause-counts
returns-clause-counts c = λ p. ap (λ starts. starts_up_to starts p) c.in_ok-starts.ensures ∙ starts_are_counted c.args.text.now p
