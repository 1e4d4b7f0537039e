use Rattle.std.proofs.Common.{◌≡◌, ℕ, ◌+◌}
use Rattle.std.specs.Fmt.{char_count}
use Rattle.isle_layout.specs.SExprShape.{sexpr_of}
use Rattle.isle_layout.specs.Inside.SExprInnermost.{names_text}
use Rattle.isle_layout.specs.Layout.{within}
use Rattle.isle_layout.proofs.sexpr.SExpr.names_length.Given as goal

abbrev pub invariant-loop-at : goal.invariant-loop-at
invariant-loop-at l =
    (n : ℕ) × (l.length ≡ within l.width n) × (n + char_count (names_text (sexpr_of l.at)) ≡ char_count (names_text (sexpr_of l.self)))
