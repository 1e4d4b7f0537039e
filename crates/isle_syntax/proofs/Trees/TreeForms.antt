-- Patterns and expressions are their trees.
use Rattle.std.proofs.Common.{◌≡◌, refl}
use Rattle.isle_ast.specs.declared.ast.Pattern.{Pattern}
use Rattle.isle_ast.specs.declared.ast.Pattern.TheVariants as patterns
use Rattle.isle_ast.specs.declared.ast.Expr.{Expr}
use Rattle.isle_ast.specs.declared.ast.Expr.TheVariants as exprs
use Rattle.isle_ast.specs.Trees.PatternTree.{PatternTree, pattern_var, pattern_bind, pattern_bool, pattern_int, pattern_prim, pattern_term}
use Rattle.isle_ast.specs.Trees.PatternTree.{pattern_wildcard, pattern_and, pattern_macro_arg}
use Rattle.isle_ast.specs.Trees.PatternShape.{pattern_of}
use Rattle.isle_ast.specs.Trees.ExprTree.{ExprTree, expr_term, expr_var, expr_bool, expr_int, expr_prim, expr_let}
use Rattle.isle_ast.specs.Trees.ExprShape.{expr_of}
use Rattle.isle_syntax.specs.Inside.Reading.DefReading.{pattern_from, expr_from}

pub pattern_of_from : (t : PatternTree) → pattern_of (pattern_from t) ≡ t
pattern_of_from (pattern_var x p) = refl
pattern_of_from (pattern_bind x sub p) = refl
pattern_of_from (pattern_bool b p) = refl
pattern_of_from (pattern_int val big p) = refl
pattern_of_from (pattern_prim x p) = refl
pattern_of_from (pattern_term x args p) = refl
pattern_of_from (pattern_wildcard p) = refl
pattern_of_from (pattern_and subs p) = refl
pattern_of_from (pattern_macro_arg i p) = refl

pub pattern_from_of : (p : Pattern) → pattern_from (pattern_of p) ≡ p
pattern_from_of (patterns.Var x p) = refl
pattern_from_of (patterns.BindPattern x sub p) = refl
pattern_from_of (patterns.ConstBool b p) = refl
pattern_from_of (patterns.ConstInt val big p) = refl
pattern_from_of (patterns.ConstPrim x p) = refl
pattern_from_of (patterns.Term x args p) = refl
pattern_from_of (patterns.Wildcard p) = refl
pattern_from_of (patterns.And subs p) = refl
pattern_from_of (patterns.MacroArg i p) = refl

pub expr_of_from : (t : ExprTree) → expr_of (expr_from t) ≡ t
expr_of_from (expr_term x args p) = refl
expr_of_from (expr_var x p) = refl
expr_of_from (expr_bool b p) = refl
expr_of_from (expr_int val big p) = refl
expr_of_from (expr_prim x p) = refl
expr_of_from (expr_let bindings body p) = refl

pub expr_from_of : (e : Expr) → expr_from (expr_of e) ≡ e
expr_from_of (exprs.Term x args p) = refl
expr_from_of (exprs.Var x p) = refl
expr_from_of (exprs.ConstBool b p) = refl
expr_from_of (exprs.ConstInt val big p) = refl
expr_from_of (exprs.ConstPrim x p) = refl
expr_from_of (exprs.Let bindings body p) = refl
