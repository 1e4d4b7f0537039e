-- What one condition of a rule comes to.
use Rattle.std.specs.Prelude.{ℕ, None}
use Rattle.isle_ast.specs.declared.ast.IfLet.{IfLet}
use Rattle.isle_ast.specs.Trees.PatternShape.{pattern_of}
use Rattle.isle_ast.specs.Trees.ExprShape.{expr_of}
use Rattle.isle_rules.specs.TypedRules.{TypedIfLet, built_at}
use Rattle.isle_rules.specs.Signatures.{Flags}
use Rattle.isle_rules.specs.Elaboration.{State}
use Rattle.isle_terms.specs.Inside.Readings.Outcomes.{Outcome, stands_for, Known, and_then, read_pattern, read_expr}

-- a condition's expression, at no type, and then its pattern at that expression's type
abbrev pub read_condition : Known → Flags → (max levels : ℕ) → IfLet → State → Outcome TypedIfLet
read_condition known caller max levels tree s =
    and_then (read_expr known caller max levels (expr_of tree.expr) None s) (λ value m.
    and_then (read_pattern known max levels (pattern_of tree.pattern) (built_at value) m) (λ pattern n.
    stands_for (record { pattern = pattern; value = value }) n))
