-- What reading a whole rule comes to: its arguments, its conditions and its right side, one after the other.
use Rattle.std.specs.Prelude.{ℕ, List, [], ◌∷◌, None, Some}
use Rattle.isle_ast.specs.declared.ast.IfLet.{IfLet}
use Rattle.isle_ast.specs.declared.ast.Rule.{Rule}
use Rattle.isle_ast.specs.declared.pos.Pos.{Pos}
use Rattle.isle_ast.specs.Trees.PatternTree.{PatternTrees}
use Rattle.isle_ast.specs.Trees.PatternShape.{pattern_of}
use Rattle.isle_ast.specs.Trees.ExprShape.{expr_of}
use Rattle.isle_rules.specs.TypedRules.{TypedPatterns, TypedExpr, TypedIfLet, built_at}
use Rattle.isle_rules.specs.Signatures.{Flags, Signature}
use Rattle.isle_rules.specs.Elaboration.{State, start, on_lhs}
use Rattle.isle_terms.specs.Inside.Readings.Outcomes.{Outcome, stands_for, Known, and_then, each_pattern, read_pattern, read_expr}

-- the typed parts of a rule
pub record RuleParts : Type 0 where
  pub args : TypedPatterns
  pub iflets : List TypedIfLet
  pub right : TypedExpr

-- each condition's expression, at no type, and then its pattern at that expression's type
abbrev pub read_conditions : Known → Flags → (max levels : ℕ) → List IfLet → State → Outcome (List TypedIfLet)
read_conditions known caller max levels [] s = stands_for [] s
read_conditions known caller max levels (first ∷ others) s =
    and_then (read_expr known caller max levels (expr_of first.expr) None s) (λ value m.
    and_then (read_pattern known max levels (pattern_of first.pattern) (built_at value) m) (λ pattern n.
    and_then (read_conditions known caller max levels others n) (λ rest s'.
    stands_for (record { pattern = pattern; value = value } ∷ rest) s')))

-- a rule of a term with flags, whose pattern has these arguments at a position
abbrev pub read_rule : Known → (max levels : ℕ) → Signature → Flags → Pos → PatternTrees → Rule → Outcome RuleParts
read_rule known max levels term flags at args tree =
    and_then (each_pattern (read_pattern known max levels) at args term.args start) (λ us m.
    and_then (read_conditions known (on_lhs flags) max levels tree.iflets m) (λ conditions n.
    and_then (read_expr known flags max levels (expr_of tree.expr) (Some term.ret) n) (λ right s'.
    stands_for (record { args = us; iflets = conditions; right = right }) s')))
