-- Where reading a rule from left to right comes to a node of some kind, all before it being well typed.
use Rattle.std.specs.Prelude.{◌≡◌, ◌≢◌, ◌⊎◌, ◌≤◌, ℕ, zero, suc, true, List, [], ◌∷◌, length, Option, None, Some, slice_get}
use Rattle.isle_ast.specs.Trees.PatternTree.{PatternTree, PatternTrees, pattern_var, pattern_bind, pattern_bool, pattern_int, pattern_prim}
use Rattle.isle_ast.specs.Trees.PatternTree.{pattern_term, pattern_wildcard, pattern_and, pattern_macro_arg, no_patterns, more_patterns}
use Rattle.isle_ast.specs.Trees.PatternTree.{pattern_pos}
use Rattle.isle_ast.specs.Trees.ExprTree.{ExprTree, ExprTrees, LetTrees, expr_term, expr_var, expr_bool, expr_int, expr_prim, expr_let}
use Rattle.isle_ast.specs.Trees.ExprTree.{no_exprs, more_exprs, no_lets, more_lets, expr_pos}
use Rattle.isle_ast.specs.Trees.Templates.{filled}
use Rattle.isle_types.specs.Environment.{Environment}
use Rattle.isle_rules.specs.TypedRules.{TypedPattern, TypedExpr, TypedBindings}
use Rattle.isle_rules.specs.Signatures.{Flags, Signature, Declared, term_named, has_constructor_form, has_extractor_form, flags_of, put_in_for}
use Rattle.isle_rules.specs.Signatures.{Converts}
use Rattle.isle_rules.specs.Elaboration.{type_named, Visible, State, counted, bound, visible_in, pattern_count, expr_count, listed, each_at}
use Rattle.isle_rules.specs.Elaboration.{PatternJudgement, Elaborates, IsExpected, may_call, ExprJudgement, Binds, Builds}

-- a fact of a pattern at a type, after a state
abbrev pub PatternFact : Type 1
PatternFact = PatternTree → ℕ → State → Type 0

-- a fact of an expression at a type or at none, after a state
abbrev pub ExprFact : Type 1
ExprFact = ExprTree → Option ℕ → State → Type 0

-- one of some patterns has a fact, and those before it stand for something
abbrev pub SomePattern : PatternJudgement → PatternFact → PatternTrees → List ℕ → State → Type 0
SomePattern R P no_patterns tys s = ⊥
SomePattern R P (more_patterns t ts) [] s = ⊥
SomePattern R P (more_patterns t ts) (ty ∷ tys) s = P t ty s ⊎ ((v : TypedPattern) × (m : State) × R t ty s v m × SomePattern R P ts tys m)

-- what is taken apart by a term has a part with a fact: its template's body, or one of its arguments
abbrev pub TakenApart : PatternJudgement → PatternFact → Signature → Option PatternTree → PatternTrees → ℕ → State → Type 0
TakenApart R P term None args ty s = SomePattern R P args term.args s
TakenApart R P term (Some template) args ty s = (body : PatternTree) × (filled (listed args) template ≡ Some body) × P body ty s

-- a term of the type that is expected is used well, and a part of the use has a fact
abbrev pub ExtractedPart : Declared → PatternJudgement → PatternFact → Signature → PatternTrees → ℕ → State → Type 0
ExtractedPart declared R P term args ty s =
    (term.ret ≡ ty) × (has_extractor_form term.form ≡ true) × (pattern_count args ≡ length term.args)
    × TakenApart R P term (put_in_for declared term) args ty s

-- a term of another type is repaired, and the repaired form has a fact
abbrev pub RepairedPattern : Declared → PatternFact → Signature → PatternTree → ℕ → State → Type 0
RepairedPattern declared P term tree ty s =
    (name : List ℕ) × (converter : Signature) × (term.ret ≢ ty) × Converts declared term.ret ty name converter
    × (has_extractor_form converter.form ≡ true)
    × P (pattern_term (name, pattern_pos tree) (more_patterns tree no_patterns) (pattern_pos tree)) ty s

-- what stands one level below a pattern has a fact
abbrev pub BelowPattern : Declared → PatternJudgement → PatternFact → PatternFact
BelowPattern declared R P (pattern_var _ _) ty s = ⊥
BelowPattern declared R P (pattern_bind _ below _) ty s = P below ty s
BelowPattern declared R P (pattern_bool _ _) ty s = ⊥
BelowPattern declared R P (pattern_int _ _ _) ty s = ⊥
BelowPattern declared R P (pattern_prim _ _) ty s = ⊥
BelowPattern declared R P (pattern_term sym args at) ty s =
    (number : ℕ) × (term : Signature) × (term_named declared sym.0 ≡ Some number) × (slice_get declared.terms number ≡ Some term)
    × (ExtractedPart declared R P term args ty s ⊎ RepairedPattern declared P term (pattern_term sym args at) ty s)
BelowPattern declared R P (pattern_wildcard _) ty s = ⊥
BelowPattern declared R P (pattern_and below _) ty s = SomePattern R P below (each_at ty below) s
BelowPattern declared R P (pattern_macro_arg _ _) ty s = ⊥

-- a fact of a pattern with so many levels left, the pattern's own among them
abbrev pub PatternKind : Type 1
PatternKind = (levels : ℕ) → PatternFact

-- a node of some kind is come to
abbrev pub ReachesPattern : Declared → PatternKind → (levels : ℕ) → PatternFact
ReachesPattern declared K zero t ty s = K zero t ty s
ReachesPattern declared K (suc levels) t ty s =
    K (suc levels) t ty s ⊎ BelowPattern declared (Elaborates declared levels) (ReachesPattern declared K levels) t ty (counted s)

-- one of some expressions has a fact, and those before it stand for something
abbrev pub SomeExpr : ExprJudgement → ExprFact → ExprTrees → List ℕ → State → Type 0
SomeExpr R P no_exprs tys s = ⊥
SomeExpr R P (more_exprs t ts) [] s = ⊥
SomeExpr R P (more_exprs t ts) (ty ∷ tys) s = P t (Some ty) s ⊎ ((v : TypedExpr) × (m : State) × R t (Some ty) s v m × SomeExpr R P ts tys m)

-- one of a `let`'s values has a fact, and those before it stand for something
abbrev pub SomeValue : Environment → ExprJudgement → ExprFact → LetTrees → State → Type 0
SomeValue types R P no_lets s = ⊥
SomeValue types R P (more_lets var of_type val _ others) s =
    (ty : ℕ) × (type_named types of_type.0 ≡ Some ty)
    × (P val (Some ty) s ⊎ ((v : TypedExpr) × (m : State) × R val (Some ty) s v m × SomeValue types R P others (bound m var.0 ty)))

-- a term is called well, and one of its arguments has a fact
abbrev pub CalledPart : Flags → ExprJudgement → ExprFact → Signature → ExprTrees → Option ℕ → State → Type 0
CalledPart caller R P term args want s =
    IsExpected want term.ret × (has_constructor_form term.form ≡ true) × (may_call caller (flags_of term.form) ≡ true)
    × (expr_count args ≡ length term.args) × SomeExpr R P args term.args s

-- an expression of another type is repaired, and the repaired form has a fact
abbrev pub RepairedExpr : Declared → ExprFact → ExprTree → ℕ → Option ℕ → State → Type 0
RepairedExpr declared P tree inner want s =
    (ty : ℕ) × (name : List ℕ) × (converter : Signature) × (want ≡ Some ty) × (inner ≢ ty) × Converts declared inner ty name converter
    × (has_constructor_form converter.form ≡ true) × P (expr_term (name, expr_pos tree) (more_exprs tree no_exprs) (expr_pos tree)) want s

-- what stands one level below an expression has a fact
abbrev pub BelowExpr : Declared → Flags → ExprJudgement → ExprFact → ExprFact
BelowExpr declared caller R P (expr_int _ _ _) want s = ⊥
BelowExpr declared caller R P (expr_bool _ _) want s = ⊥
BelowExpr declared caller R P (expr_prim _ _) want s = ⊥
BelowExpr declared caller R P (expr_var name at) want s =
    (seen : Visible) × (visible_in s.scope name.0 ≡ Some seen) × RepairedExpr declared P (expr_var name at) seen.type want s
BelowExpr declared caller R P (expr_term sym args at) want s =
    (number : ℕ) × (term : Signature) × (term_named declared sym.0 ≡ Some number) × (slice_get declared.terms number ≡ Some term)
    × (CalledPart caller R P term args want s ⊎ RepairedExpr declared P (expr_term sym args at) term.ret want s)
BelowExpr declared caller R P (expr_let defs body _) want s =
    SomeValue declared.types R P defs s ⊎ ((bs : TypedBindings) × (m : State) × Binds declared.types R defs s bs m × P body want m)

-- a fact of an expression with so many levels left, the expression's own among them
abbrev pub ExprKind : Type 1
ExprKind = (levels : ℕ) → ExprFact

-- a node of some kind is come to
abbrev pub ReachesExpr : Declared → Flags → ExprKind → (levels : ℕ) → ExprFact
ReachesExpr declared caller K zero e want s = K zero e want s
ReachesExpr declared caller K (suc levels) e want s =
    K (suc levels) e want s ⊎ BelowExpr declared caller (Builds declared caller levels) (ReachesExpr declared caller K levels) e want (counted s)

-- a node too deep, or one too many
abbrev pub IsTooLarge : (max levels : ℕ) → State → Type 0
IsTooLarge max zero s = Unit {0}
IsTooLarge max (suc levels) s = max ≤ s.nodes
