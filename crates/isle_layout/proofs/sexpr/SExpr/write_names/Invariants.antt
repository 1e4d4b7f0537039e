use Rattle.std.proofs.Common.{◌≡◌, ◌++◌, string_bytes}
use Rattle.isle_layout.specs.SExprShape.{sexpr_of}
use Rattle.isle_layout.specs.Inside.SExprInnermost.{names_text}
use Rattle.isle_layout.proofs.sexpr.SExpr.write_names.Given as goal

abbrev pub invariant-loop-at : goal.invariant-loop-at
invariant-loop-at l =
    string_bytes l.out ++ names_text (sexpr_of l.at) ≡ string_bytes l.initial.out ++ names_text (sexpr_of l.self)
