use Rattle.std.proofs.Common.{◌≤◌, length, refl, arith, take_all}
use Rattle.isle_ast.proofs.Trees.TreeShapes.{lets_from_map}
use Rattle.isle_ast.proofs.ast.eq.+same_expr.Goals as goal

pub are_same_lets-returns : goal.are_same_lets-returns
are_same_lets-returns t c =
    let done : length c.args.a.now ≤ c.loop-i.i = omega arith in
    let other_done : length c.args.b.now ≤ c.loop-i.i = omega arith in
    let each = rw (take_all, take_all) at c.loop-i.invariant in
    (λ _. lets_from_map c.args.a.now c.args.b.now each, λ _. refl)
