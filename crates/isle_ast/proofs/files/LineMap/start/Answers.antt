use Rattle.std.proofs.Common.{◌≡◌, ap, sym, ◌∙◌, length, arith}
use Rattle.std.proofs.lemmas.List.{get_or_default}
use Rattle.isle_ast.specs.Positions.Lines.{starts_up_to}
use Rattle.isle_ast.proofs.Positions.LineStarts.{counted_start_is_below}
use Rattle.isle_ast.proofs.files.LineMap.start.Goals as goal

pub returns-in-Some-clause-below : goal.returns-in-Some-clause-below
returns-in-Some-clause-below c =
    let starts = c.self.inside.starts.items in
    let counted : c.line.result ≡ starts_up_to starts c.args.p = c.line.ensures.value ∙ ap (λ s. starts_up_to s c.args.p) (sym c.self.view_is) in
    let below = counted_start_is_below starts c.args.p c.in-Some.i c.self.invariant (omega (arith, counted, c.in-Some.ensures)) in
    let read = get_or_default starts c.in-Some.i c.index.result.now 0 (omega (arith, c.in-Some.ensures, ap length c.self.view_is)) in
    omega (arith, below, read, c.index.ensures)
