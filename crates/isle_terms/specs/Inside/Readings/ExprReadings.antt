-- What the parts of a reading of expressions are cited by.
use Rattle.std.specs.Prelude.{ℕ, Bool, List, Option, ◌==◌, ◌&&◌, length}
use Rattle.isle_ast.specs.Trees.ExprTree.{ExprTree, LetTrees}
use Rattle.isle_types.specs.declared.ids.TypeId.{TypeId}
use Rattle.isle_types.specs.declared.ids.VarId.{VarId}
use Rattle.isle_rules.specs.declared.rules.Expr.{Expr}
use Rattle.isle_rules.specs.Signatures.{Flags, Signature, has_constructor_form, flags_of}
use Rattle.isle_rules.specs.TypedRules.{TypedExpr, built_let, built_at}
use Rattle.isle_rules.specs.Elaboration.{State, may_call, seen_from}
use Rattle.isle_terms.specs.Inside.Readings.Outcomes.{Outcome, Known, ExprRun, stands_for, and_then, bind_values}
use Rattle.isle_rules.specs.Shown.ShownRules.{built_shown, expr_limit}

-- whether a term can be called with so many arguments by what has these flags
abbrev pub is_call : (caller : Flags) → Signature → (count : ℕ) → Bool
is_call caller term count = (count == length term.args) && (has_constructor_form term.form && may_call caller (flags_of term.form))

-- a variable of a `let` with its type and value
abbrev pub binding_shown : List (List ℕ) → VarId × TypeId × Expr → VarId × TypeId × TypedExpr
binding_shown names binding = (binding.0, binding.1, built_shown names binding.2)

-- the symbols of its value are below this
abbrev pub binding_limit : VarId × TypeId × Expr → VarId × TypeId × ℕ
binding_limit binding = (binding.0, binding.1, expr_limit binding.2)

-- a `let`: its variables in order, and then its body, which sees them
abbrev pub read_let : Known → ExprRun → LetTrees → ExprTree → Option ℕ → State → Outcome TypedExpr
read_let known r defs body want s =
    and_then (bind_values known r defs s) (λ bs m. and_then (r body want m) (λ v e. stands_for (built_let (built_at v) bs v) (seen_from s e)))
