-- What the trees of a rule stand for. A child, what is put in for an extractor's use, and a repaired form stand one level
-- deeper than what they come from, and each counts one node.
use Rattle.std.specs.Prelude.{◌≡◌, ◌≢◌, ◌⊎◌, ◌≤◌, ℕ, zero, suc, ◌+◌, ℤ, pos, Bool, true, List, [], ◌∷◌, ◌++◌, length, Option, None, Some}
use Rattle.std.specs.Prelude.{unwrap_or, slice_get, if◌then◌else◌, ◌&&◌}
use Rattle.std.specs.Option.{option_map}
use Rattle.std.specs.Str.{bytes_eq}
use Rattle.isle_ast.specs.declared.ast.Ident.{Ident}
use Rattle.isle_ast.specs.declared.ast.IfLet.{IfLet}
use Rattle.isle_ast.specs.declared.ast.Rule.{Rule}
use Rattle.isle_ast.specs.Trees.PatternTree.{PatternTree, PatternTrees, pattern_var, pattern_bind, pattern_bool, pattern_int, pattern_prim}
use Rattle.isle_ast.specs.Trees.PatternTree.{pattern_term, pattern_wildcard, pattern_and, pattern_macro_arg, no_patterns, more_patterns}
use Rattle.isle_ast.specs.Trees.PatternTree.{pattern_pos}
use Rattle.isle_ast.specs.Trees.PatternShape.{pattern_of}
use Rattle.isle_ast.specs.Trees.ExprTree.{ExprTree, ExprTrees, LetTrees, expr_term, expr_var, expr_bool, expr_int, expr_prim, expr_let}
use Rattle.isle_ast.specs.Trees.ExprTree.{no_exprs, more_exprs, no_lets, more_lets, expr_pos}
use Rattle.isle_ast.specs.Trees.ExprShape.{expr_of}
use Rattle.isle_ast.specs.Trees.Templates.{filled}
use Rattle.isle_types.specs.declared.types.IntType.{IntType}
use Rattle.isle_types.specs.declared.types.BuiltinType.TheVariants.{Int}
use Rattle.isle_types.specs.IntTypes.{builtin_types, builtin_names, HasNumber, spelt_number}
use Rattle.isle_types.specs.Names.{position_of}
use Rattle.isle_types.specs.Environment.{Environment, NamedType, primitive, constant_in, names_in}
use Rattle.isle_rules.specs.TypedRules.{TypedPattern, TypedPatterns, typed_bind, typed_var, typed_bool, typed_int, typed_prim, typed_term}
use Rattle.isle_rules.specs.TypedRules.{typed_wildcard, typed_and, no_typed, more_typed, TypedExpr, TypedExprs, TypedBindings, built_term}
use Rattle.isle_rules.specs.TypedRules.{built_var, built_bool, built_int, built_prim, built_let, no_built, more_built, no_typed_bindings, more_typed_bindings}
use Rattle.isle_rules.specs.TypedRules.{built_at, Variable, TypedIfLet, TypedRule}
use Rattle.isle_rules.specs.Signatures.{Flags, by_rules, declared_form, Signature, Declared, term_named, has_constructor_form, has_extractor_form}
use Rattle.isle_rules.specs.Signatures.{flags_of, put_in_for, Converts}

-- the number of the type `bool`
abbrev pub bool_number : ℕ
bool_number = 0

-- the number of the type of a name
abbrev pub type_named : Environment → List ℕ → Option ℕ
type_named types name = position_of (names_in types) name

-- a literal has a type: an integer type that has the number, or a primitive
pub data IsLiteralOf (types : Environment) (ty : ℕ) (val : ℤ) (big : Bool) : Type 0 where
  of_integer : (int : IntType) → slice_get builtin_types ty ≡ Some (Int int) → HasNumber int (spelt_number val big) → IsLiteralOf types ty val big
  of_primitive : (place : ℕ) (type : NamedType) (host : List ℕ) → ty ≡ length builtin_names + place → slice_get types.types place ≡ Some type
      → type.shape ≡ primitive host → IsLiteralOf types ty val big

-- a name that can be used, with the number and type of its variable
pub record Visible : Type 0 where
  pub name : List ℕ
  pub var : ℕ
  pub type : ℕ

-- the names that can be used, the innermost first; the variables bound so far; and how many nodes there are so far
pub record State : Type 0 where
  pub scope : List Visible
  pub variables : List Variable
  pub nodes : ℕ

abbrev pub start : State
start = record { scope = []; variables = []; nodes = 0 }

-- with one node more
abbrev pub counted : State → State
counted s = record { scope = s.scope; variables = s.variables; nodes = s.nodes + 1 }

-- with a variable more, which can be used
abbrev pub bound : State → List ℕ → ℕ → State
bound s name ty = record {
  scope = record { name = name; var = length s.variables; type = ty } ∷ s.scope;
  variables = s.variables ++ record { name = name; type = ty } ∷ [];
  nodes = s.nodes;
}

-- with the names of another state alone
abbrev pub seen_from : State → State → State
seen_from outer s = record { scope = outer.scope; variables = s.variables; nodes = s.nodes }

-- the innermost of a name
abbrev pub visible_in : List Visible → List ℕ → Option Visible
visible_in [] name = None
visible_in (first ∷ others) name = if bytes_eq first.name name then Some first else visible_in others name

-- how many patterns there are
abbrev pub pattern_count : PatternTrees → ℕ
pattern_count no_patterns = 0
pattern_count (more_patterns _ others) = pattern_count others + 1

-- how many expressions there are
abbrev pub expr_count : ExprTrees → ℕ
expr_count no_exprs = 0
expr_count (more_exprs _ others) = expr_count others + 1

-- patterns as a list
abbrev pub listed : PatternTrees → List PatternTree
listed no_patterns = []
listed (more_patterns first others) = first ∷ listed others

-- one type for each of some patterns
abbrev pub each_at : ℕ → PatternTrees → List ℕ
each_at ty no_patterns = []
each_at ty (more_patterns _ others) = ty ∷ each_at ty others

-- a pattern, at a type and after a state, stands for a typed one, with another state after it
abbrev pub PatternJudgement : Type 1
PatternJudgement = PatternTree → ℕ → State → TypedPattern → State → Type 0

-- patterns stand for typed ones from left to right, each at its type
abbrev pub EachPattern : PatternJudgement → PatternTrees → List ℕ → State → TypedPatterns → State → Type 0
EachPattern R no_patterns [] s us s' = (us ≡ no_typed) × (s' ≡ s)
EachPattern R no_patterns (ty ∷ tys) s us s' = ⊥
EachPattern R (more_patterns t ts) [] s us s' = ⊥
EachPattern R (more_patterns t ts) (ty ∷ tys) s us s' =
    (v : TypedPattern) × (m : State) × (vs : TypedPatterns) × R t ty s v m × EachPattern R ts tys m vs s' × (us ≡ more_typed v vs)

-- a name binds, or is bound already at this type and demands equality
abbrev pub IsNamed : List ℕ → ℕ → State → TypedPattern → State → Type 0
IsNamed name ty s u s' =
    ((visible_in s.scope name ≡ None) × (u ≡ typed_bind ty (length s.variables) (typed_wildcard ty)) × (s' ≡ bound s name ty))
    ⊎ ((seen : Visible) × (visible_in s.scope name ≡ Some seen) × (seen.type ≡ ty) × (u ≡ typed_var ty seen.var) × (s' ≡ s))

-- a term is used in a pattern: its template is put in, or its arguments are matched
abbrev pub TakesApart : PatternJudgement → Signature → ℕ → Option PatternTree → PatternTrees → ℕ → State → TypedPattern → State → Type 0
TakesApart R term number None args ty s u s' =
    (us : TypedPatterns) × EachPattern R args term.args s us s' × (u ≡ typed_term ty number us)
TakesApart R term number (Some template) args ty s u s' =
    (body : PatternTree) × (filled (listed args) template ≡ Some body) × R body ty s u s'

-- a use of a term of the type that is expected
pub record Extracts (declared : Declared) (R : PatternJudgement) (term : Signature) (number : ℕ) (args : PatternTrees) (ty : ℕ) (s : State)
    (u : TypedPattern) (s' : State) : Type 0 where
  pub type : term.ret ≡ ty
  pub usable : has_extractor_form term.form ≡ true
  pub arity : pattern_count args ≡ length term.args
  pub taken : TakesApart R term number (put_in_for declared term) args ty s u s'

-- a use of a term of another type: a converter that can be used in a pattern is put around it
pub record ConvertsPattern (declared : Declared) (R : PatternJudgement) (term : Signature) (tree : PatternTree) (ty : ℕ) (s : State)
    (u : TypedPattern) (s' : State) : Type 0 where
  pub name : List ℕ
  pub converter : Signature
  pub other : term.ret ≢ ty
  pub fits : Converts declared term.ret ty name converter
  pub usable : has_extractor_form converter.form ≡ true
  pub repaired : R (pattern_term (name, pattern_pos tree) (more_patterns tree no_patterns) (pattern_pos tree)) ty s u s'

-- one node of a pattern, over what stands one level deeper
abbrev pub PatternNode : Declared → PatternJudgement → PatternJudgement
PatternNode declared R (pattern_var name _) ty s u s' = IsNamed name.0 ty s u s'
PatternNode declared R (pattern_bind name below _) ty s u s' =
    (v : TypedPattern) × (m : State) × R below ty s v m × (visible_in m.scope name.0 ≡ None) × (u ≡ typed_bind ty (length m.variables) v)
    × (s' ≡ bound m name.0 ty)
PatternNode declared R (pattern_bool val _) ty s u s' = (ty ≡ bool_number) × (u ≡ typed_bool ty val) × (s' ≡ s)
PatternNode declared R (pattern_int val big _) ty s u s' = IsLiteralOf declared.types ty val big × (u ≡ typed_int ty val) × (s' ≡ s)
PatternNode declared R (pattern_prim name _) ty s u s' = (constant_in declared.types.constants name.0 ≡ Some ty) × (u ≡ typed_prim ty name.0)
    × (s' ≡ s)
PatternNode declared R (pattern_term sym args at) ty s u s' =
    (number : ℕ) × (term : Signature) × (term_named declared sym.0 ≡ Some number) × (slice_get declared.terms number ≡ Some term)
    × (Extracts declared R term number args ty s u s' ⊎ ConvertsPattern declared R term (pattern_term sym args at) ty s u s')
PatternNode declared R (pattern_wildcard _) ty s u s' = (u ≡ typed_wildcard ty) × (s' ≡ s)
PatternNode declared R (pattern_and below _) ty s u s' = (us : TypedPatterns) × EachPattern R below (each_at ty below) s us s' × (u ≡ typed_and ty us)
PatternNode declared R (pattern_macro_arg _ _) ty s u s' = ⊥

-- a pattern stands for a typed one in at most so many levels
abbrev pub Elaborates : Declared → (levels : ℕ) → PatternJudgement
Elaborates declared zero t ty s u s' = ⊥
Elaborates declared (suc levels) t ty s u s' = PatternNode declared (Elaborates declared levels) t ty (counted s) u s'

-- a term of these flags may be called where those are the flags of what calls it
abbrev pub may_call : (caller called : Flags) → Bool
may_call caller called =
    (if caller.pure then called.pure else true)
    && ((if called.multi then caller.multi else true) && (if called.partial then caller.partial else true))

-- the flags of what calls in an if-let of a term
abbrev pub on_lhs : Flags → Flags
on_lhs flags = record { pure = true; multi = flags.multi; partial = true; rec = flags.rec }

-- the type that is expected, if one is
abbrev pub IsExpected : Option ℕ → ℕ → Type 0
IsExpected None ty = Unit {0}
IsExpected (Some wanted) ty = wanted ≡ ty

-- an expression, at a type or at none and after a state, stands for a typed one, with another state after it
abbrev pub ExprJudgement : Type 1
ExprJudgement = ExprTree → Option ℕ → State → TypedExpr → State → Type 0

-- expressions stand for typed ones from left to right, each at its type
abbrev pub EachExpr : ExprJudgement → ExprTrees → List ℕ → State → TypedExprs → State → Type 0
EachExpr R no_exprs [] s us s' = (us ≡ no_built) × (s' ≡ s)
EachExpr R no_exprs (ty ∷ tys) s us s' = ⊥
EachExpr R (more_exprs t ts) [] s us s' = ⊥
EachExpr R (more_exprs t ts) (ty ∷ tys) s us s' =
    (v : TypedExpr) × (m : State) × (vs : TypedExprs) × R t (Some ty) s v m × EachExpr R ts tys m vs s' × (us ≡ more_built v vs)

-- each variable of a `let` after its value, seen by what follows it
abbrev pub Binds : Environment → ExprJudgement → LetTrees → State → TypedBindings → State → Type 0
Binds types R no_lets s bs s' = (bs ≡ no_typed_bindings) × (s' ≡ s)
Binds types R (more_lets var of_type val _ others) s bs s' =
    (ty : ℕ) × (v : TypedExpr) × (m : State) × (rest : TypedBindings) × (type_named types of_type.0 ≡ Some ty)
    × R val (Some ty) s v m × Binds types R others (bound m var.0 ty) rest s' × (bs ≡ more_typed_bindings (length m.variables) ty v rest)

-- a call of a term whose type is expected
pub record Calls (caller : Flags) (R : ExprJudgement) (term : Signature) (number : ℕ) (args : ExprTrees) (want : Option ℕ) (s : State)
    (u : TypedExpr) (s' : State) : Type 0 where
  pub values : TypedExprs
  pub type : IsExpected want term.ret
  pub usable : has_constructor_form term.form ≡ true
  pub allowed : may_call caller (flags_of term.form) ≡ true
  pub each : EachExpr R args term.args s values s'
  pub made : u ≡ built_term term.ret number values

-- an expression of another type than is expected: a converter that can be used in an expression is put around it
pub record ConvertsExpr (declared : Declared) (R : ExprJudgement) (tree : ExprTree) (inner : ℕ) (want : Option ℕ) (s : State) (u : TypedExpr)
    (s' : State) : Type 0 where
  pub ty : ℕ
  pub name : List ℕ
  pub converter : Signature
  pub wanted : want ≡ Some ty
  pub other : inner ≢ ty
  pub fits : Converts declared inner ty name converter
  pub usable : has_constructor_form converter.form ≡ true
  pub repaired : R (expr_term (name, expr_pos tree) (more_exprs tree no_exprs) (expr_pos tree)) want s u s'

-- one node of an expression, over what stands one level deeper
abbrev pub ExprNode : Declared → Flags → ExprJudgement → ExprJudgement
ExprNode declared caller R (expr_int val big _) want s u s' = (ty : ℕ) × (want ≡ Some ty) × IsLiteralOf declared.types ty val big
    × (u ≡ built_int ty val) × (s' ≡ s)
ExprNode declared caller R (expr_bool val _) want s u s' = IsExpected want bool_number × (u ≡ built_bool bool_number val) × (s' ≡ s)
ExprNode declared caller R (expr_prim name _) want s u s' =
    (ty : ℕ) × (constant_in declared.types.constants name.0 ≡ Some ty) × IsExpected want ty × (u ≡ built_prim ty name.0) × (s' ≡ s)
ExprNode declared caller R (expr_var name at) want s u s' =
    (seen : Visible) × (visible_in s.scope name.0 ≡ Some seen)
    × ((IsExpected want seen.type × (u ≡ built_var seen.type seen.var) × (s' ≡ s)) ⊎ ConvertsExpr declared R (expr_var name at) seen.type want s u s')
ExprNode declared caller R (expr_term sym args at) want s u s' =
    (number : ℕ) × (term : Signature) × (term_named declared sym.0 ≡ Some number) × (slice_get declared.terms number ≡ Some term)
    × (Calls caller R term number args want s u s' ⊎ ConvertsExpr declared R (expr_term sym args at) term.ret want s u s')
ExprNode declared caller R (expr_let defs body _) want s u s' =
    (bs : TypedBindings) × (m : State) × (v : TypedExpr) × (e : State) × Binds declared.types R defs s bs m × R body want m v e
    × (u ≡ built_let (built_at v) bs v) × (s' ≡ seen_from s e)

-- an expression stands for a typed one in at most so many levels
abbrev pub Builds : Declared → Flags → (levels : ℕ) → ExprJudgement
Builds declared caller zero e want s u s' = ⊥
Builds declared caller (suc levels) e want s u s' = ExprNode declared caller (Builds declared caller levels) e want (counted s) u s'

-- each condition's expression, at no type, and then its pattern at that expression's type
abbrev pub Conditions : Declared → Flags → ℕ → List IfLet → State → List TypedIfLet → State → Type 0
Conditions declared caller levels [] s us s' = (us ≡ []) × (s' ≡ s)
Conditions declared caller levels (first ∷ others) s us s' =
    (value : TypedExpr) × (m : State) × (pattern : TypedPattern) × (n : State) × (rest : List TypedIfLet)
    × Builds declared caller levels (expr_of first.expr) None s value m
    × Elaborates declared levels (pattern_of first.pattern) (built_at value) m pattern n
    × Conditions declared caller levels others n rest s' × (us ≡ record { pattern = pattern; value = value } ∷ rest)

-- The typed rule of a rule: its root is a declared term with rules, without a priority where it is `multi`; then its
-- arguments, its conditions and its right side, each in at most so many levels, with at most so many nodes in all. Its
-- name is that which is written.
pub record ElaboratesRule (declared : Declared) (levels max : ℕ) (tree : Rule) (typed : TypedRule) : Type 0 where
  pub sym : Ident
  pub args : PatternTrees
  pub term : Signature
  pub flags : Flags
  pub matched : State
  pub met : State
  pub done : State
  pub shape : (at : _) × (pattern_of tree.pattern ≡ pattern_term sym args at)
  pub root : term_named declared sym.0 ≡ Some typed.root
  pub known : slice_get declared.terms typed.root ≡ Some term
  pub ruled : (extractor : _) × (term.form ≡ declared_form flags (Some by_rules) extractor)
  pub unordered : flags.multi ≡ true → tree.prio ≡ None
  pub left : EachPattern (Elaborates declared levels) args term.args start typed.args matched
  pub conditions : Conditions declared (on_lhs flags) levels tree.iflets matched typed.iflets met
  pub right : Builds declared flags levels (expr_of tree.expr) (Some term.ret) met typed.right done
  pub within : done.nodes ≤ max
  pub variables : typed.variables ≡ done.variables
  pub priority : typed.priority ≡ unwrap_or tree.prio (pos 0)
  pub pos : typed.pos ≡ tree.pos
  pub name : typed.name ≡ option_map (λ (name : Ident). name.0) tree.name
