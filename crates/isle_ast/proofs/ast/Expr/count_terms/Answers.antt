use Rattle.std.proofs.Common.{rules, arith}
use Rattle.isle_ast.specs.contracts.ast.fn.Expr.count_terms.terms as closure
use Rattle.isle_ast.proofs.Trees.Counts.{counted}
use Rattle.isle_ast.proofs.ast.Expr.count_terms.Goals as goal

pub returns : goal.returns
returns c =
    let made = counted _ (λ q. (closure.captures q).count) (λ q. q.0.ghost_name) 18446744073709551615 (λ p x q call. search rules) _ _ _ (omega arith)
    c.terms.ensures.handed in
    omega arith
