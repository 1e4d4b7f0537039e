-- What is asked of typed patterns and expressions.
use Rattle.isle_ast.specs.declared.pos.Pos.{Pos}
use Rattle.isle_rules.specs.declared.rules.Rule.{Rule}
use Rattle.isle_types.specs.declared.ids.TypeId.{TypeId}
use Rattle.isle_rules.specs.declared.rules.Pattern.{Pattern, Pattern-F, out-Pattern}
use Rattle.isle_rules.specs.declared.rules.Pattern.TheOpen.{BindPattern, Var as PatternVar, ConstBool as PatternBool, ConstInt as PatternInt}
use Rattle.isle_rules.specs.declared.rules.Pattern.TheOpen.{ConstPrim as PatternPrim, Term as PatternTerm, Wildcard, And}
use Rattle.isle_rules.specs.declared.rules.Expr.{Expr, Expr-F, out-Expr}
use Rattle.isle_rules.specs.declared.rules.Expr.TheOpen.{Term, Var, ConstBool, ConstInt, ConstPrim, Let}

-- the type of a pattern, whatever stands below it
abbrev pub pattern_type : {X : Type 0} → Pattern-F X → TypeId
pattern_type (BindPattern ty _ _) = ty
pattern_type (PatternVar ty _) = ty
pattern_type (PatternBool ty _) = ty
pattern_type (PatternInt ty _) = ty
pattern_type (PatternPrim ty _) = ty
pattern_type (PatternTerm ty _ _) = ty
pattern_type (Wildcard ty) = ty
pattern_type (And ty _) = ty

-- the type of what a pattern matches
abbrev pub type_of_pattern : Pattern → TypeId
type_of_pattern pattern = pattern_type (out-Pattern pattern)

-- the type of an expression, whatever stands below it
abbrev pub expr_type : {X : Type 0} → Expr-F X → TypeId
expr_type (Term ty _ _) = ty
expr_type (Var ty _) = ty
expr_type (ConstBool ty _) = ty
expr_type (ConstInt ty _) = ty
expr_type (ConstPrim ty _) = ty
expr_type (Let ty _ _) = ty

-- the type of an expression's value
abbrev pub type_of_expr : Expr → TypeId
type_of_expr expr = expr_type (out-Expr expr)

-- a typed rule stands at such a position
abbrev pub TypedRuleAt : (Pos → Type 0) → Rule → Type 0
TypedRuleAt At rule = At rule.pos
