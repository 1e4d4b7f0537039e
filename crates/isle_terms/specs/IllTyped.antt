-- Which nodes of a rule break a rule of typing, and where.
use Rattle.std.specs.Prelude.{◌≡◌, ◌≢◌, ◌⊎◌, ℕ, true, false, List, length, Option, None, Some, IsSome, slice_get}
use Rattle.isle_ast.specs.declared.pos.Pos.{Pos}
use Rattle.isle_ast.specs.Trees.PatternTree.{PatternTree, PatternTrees, pattern_var, pattern_bind, pattern_bool, pattern_int, pattern_prim}
use Rattle.isle_ast.specs.Trees.PatternTree.{pattern_term, pattern_wildcard, pattern_and, pattern_macro_arg}
use Rattle.isle_ast.specs.Trees.ExprTree.{ExprTree, ExprTrees, LetTrees, expr_term, expr_var, expr_bool, expr_int, expr_prim, expr_let}
use Rattle.isle_ast.specs.Trees.ExprTree.{no_lets, more_lets}
use Rattle.isle_ast.specs.Trees.Templates.{filled}
use Rattle.isle_types.specs.Environment.{Environment, constant_in}
use Rattle.isle_rules.specs.TypedRules.{TypedPattern, TypedExpr}
use Rattle.isle_rules.specs.Signatures.{Flags, Signature, Declared, term_named, has_constructor_form, has_extractor_form, flags_of, put_in_for}
use Rattle.isle_rules.specs.Signatures.{Converts}
use Rattle.isle_rules.specs.Elaboration.{type_named, IsLiteralOf, Visible, State, bound, visible_in, pattern_count, expr_count, listed}
use Rattle.isle_rules.specs.Elaboration.{PatternJudgement, IsExpected, may_call, ExprJudgement, bool_number}

-- no converter that can be used in a pattern fits a pair of types
abbrev pub HasNoPatternConverter : Declared → (inner outer : ℕ) → Type 0
HasNoPatternConverter declared inner outer =
    (name : List ℕ) (converter : Signature) → Converts declared inner outer name converter → has_extractor_form converter.form ≡ true → ⊥

-- no converter that can be used in an expression fits a pair of types
abbrev pub HasNoExprConverter : Declared → (inner outer : ℕ) → Type 0
HasNoExprConverter declared inner outer =
    (name : List ℕ) (converter : Signature) → Converts declared inner outer name converter → has_constructor_form converter.form ≡ true → ⊥

-- a template lacks an argument that is to be put in
abbrev pub LacksArgument : Declared → Signature → PatternTrees → Type 0
LacksArgument declared term args = (template : PatternTree) × (put_in_for declared term ≡ Some template) × (filled (listed args) template ≡ None)

-- a known term is used ill in a pattern
pub data IsIllUse (declared : Declared) (term : Signature) (args : PatternTrees) (ty : ℕ) : Type 0 where
  no_extractor : term.ret ≡ ty → has_extractor_form term.form ≡ false → IsIllUse declared term args ty
  other_count : term.ret ≡ ty → pattern_count args ≢ length term.args → IsIllUse declared term args ty
  argument_lacking : term.ret ≡ ty → LacksArgument declared term args → IsIllUse declared term args ty
  other_type : term.ret ≢ ty → HasNoPatternConverter declared term.ret ty → IsIllUse declared term args ty

-- a pattern's own node is ill typed at a type and after a state, at a position
abbrev pub IsIllPattern : Declared → PatternJudgement → Pos → PatternTree → ℕ → State → Type 0
IsIllPattern declared R at (pattern_var name pos) ty s = (seen : Visible) × (visible_in s.scope name.0 ≡ Some seen) × (seen.type ≢ ty) × (at ≡ pos)
IsIllPattern declared R at (pattern_bind name below pos) ty s = (v : TypedPattern) × (m : State) × R below ty s v m
    × IsSome (visible_in m.scope name.0) × (at ≡ pos)
IsIllPattern declared R at (pattern_bool _ pos) ty s = (ty ≢ bool_number) × (at ≡ pos)
IsIllPattern declared R at (pattern_int val big pos) ty s = (IsLiteralOf declared.types ty val big → ⊥) × (at ≡ pos)
IsIllPattern declared R at (pattern_prim name pos) ty s = (constant_in declared.types.constants name.0 ≢ Some ty) × (at ≡ pos)
IsIllPattern declared R at (pattern_term sym args pos) ty s =
    ((term_named declared sym.0 ≡ None)
    ⊎ ((number : ℕ) × (term : Signature) × (term_named declared sym.0 ≡ Some number) × (slice_get declared.terms number ≡ Some term)
    × IsIllUse declared term args ty))
    × (at ≡ pos)
IsIllPattern declared R at (pattern_wildcard _) ty s = ⊥
IsIllPattern declared R at (pattern_and _ _) ty s = ⊥
IsIllPattern declared R at (pattern_macro_arg _ pos) ty s = at ≡ pos

-- an expression has another type than is expected, and no converter fits
abbrev pub IsBeyondRepair : Declared → ℕ → Option ℕ → Type 0
IsBeyondRepair declared inner None = ⊥
IsBeyondRepair declared inner (Some ty) = (inner ≢ ty) × HasNoExprConverter declared inner ty

-- a known term is called ill
pub data IsIllCall (declared : Declared) (caller : Flags) (term : Signature) (args : ExprTrees) (want : Option ℕ) : Type 0 where
  no_constructor : IsExpected want term.ret → has_constructor_form term.form ≡ false → IsIllCall declared caller term args want
  not_allowed : IsExpected want term.ret → may_call caller (flags_of term.form) ≡ false → IsIllCall declared caller term args want
  other_number : IsExpected want term.ret → expr_count args ≢ length term.args → IsIllCall declared caller term args want
  other_result : IsBeyondRepair declared term.ret want → IsIllCall declared caller term args want

-- the type of a `let`'s variable is unknown, at a position, and all before it stands for something
abbrev pub HasUnknownType : Environment → ExprJudgement → Pos → LetTrees → State → Type 0
HasUnknownType types R at no_lets s = ⊥
HasUnknownType types R at (more_lets var of_type val _ others) s =
    ((type_named types of_type.0 ≡ None) × (at ≡ of_type.1))
    ⊎ ((ty : ℕ) × (v : TypedExpr) × (m : State) × (type_named types of_type.0 ≡ Some ty) × R val (Some ty) s v m
    × HasUnknownType types R at others (bound m var.0 ty))

-- an expression's own node is ill typed at a type or at none and after a state, at a position
abbrev pub IsIllExpr : Declared → Flags → ExprJudgement → Pos → ExprTree → Option ℕ → State → Type 0
IsIllExpr declared caller R at (expr_int val big pos) want s =
    ((want ≡ None) ⊎ ((ty : ℕ) × (want ≡ Some ty) × (IsLiteralOf declared.types ty val big → ⊥))) × (at ≡ pos)
IsIllExpr declared caller R at (expr_bool _ pos) want s = (IsExpected want bool_number → ⊥) × (at ≡ pos)
IsIllExpr declared caller R at (expr_prim name pos) want s =
    ((constant_in declared.types.constants name.0 ≡ None)
    ⊎ ((ty : ℕ) × (constant_in declared.types.constants name.0 ≡ Some ty) × (IsExpected want ty → ⊥))) × (at ≡ pos)
IsIllExpr declared caller R at (expr_var name pos) want s =
    ((visible_in s.scope name.0 ≡ None)
    ⊎ ((seen : Visible) × (visible_in s.scope name.0 ≡ Some seen) × IsBeyondRepair declared seen.type want)) × (at ≡ pos)
IsIllExpr declared caller R at (expr_term sym args pos) want s =
    ((term_named declared sym.0 ≡ None)
    ⊎ ((number : ℕ) × (term : Signature) × (term_named declared sym.0 ≡ Some number) × (slice_get declared.terms number ≡ Some term)
    × IsIllCall declared caller term args want))
    × (at ≡ pos)
IsIllExpr declared caller R at (expr_let defs body _) want s = HasUnknownType declared.types R at defs s
