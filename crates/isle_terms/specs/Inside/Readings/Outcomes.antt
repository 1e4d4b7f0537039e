-- What reading the trees of a rule comes to, as functions: what they stand for, or where they are ill typed, or that they
-- exceed a size. Trees are read from left to right under names whose meaning is known.
use Rattle.std.specs.Prelude.{ℕ, zero, suc, ℤ, Bool, true, false, List, [], ◌∷◌, length, Option, None, Some, if◌then◌else◌, ◌==◌, ◌&&◌, leb}
use Rattle.isle_ast.specs.declared.pos.Pos.{Pos}
use Rattle.isle_ast.specs.Trees.PatternTree.{PatternTree, PatternTrees, pattern_var, pattern_bind, pattern_bool, pattern_int, pattern_prim}
use Rattle.isle_ast.specs.Trees.PatternTree.{pattern_term, pattern_wildcard, pattern_and, pattern_macro_arg, no_patterns, more_patterns}
use Rattle.isle_ast.specs.Trees.PatternTree.{pattern_pos}
use Rattle.isle_ast.specs.Trees.ExprTree.{ExprTree, ExprTrees, LetTrees, expr_term, expr_var, expr_bool, expr_int, expr_prim, expr_let}
use Rattle.isle_ast.specs.Trees.ExprTree.{no_exprs, more_exprs, no_lets, more_lets, expr_pos}
use Rattle.isle_ast.specs.Trees.Templates.{filled}
use Rattle.isle_rules.specs.TypedRules.{TypedPattern, TypedPatterns, typed_bind, typed_var, typed_bool, typed_int, typed_prim, typed_term}
use Rattle.isle_rules.specs.TypedRules.{typed_wildcard, typed_and, no_typed, more_typed, TypedExpr, TypedExprs, TypedBindings, built_term}
use Rattle.isle_rules.specs.TypedRules.{built_var, built_bool, built_int, built_prim, built_let, no_built, more_built, no_typed_bindings, more_typed_bindings}
use Rattle.isle_rules.specs.TypedRules.{built_at}
use Rattle.isle_rules.specs.Signatures.{Flags, TermForm, Signature, has_constructor_form, has_extractor_form, flags_of, template_of}
use Rattle.isle_rules.specs.Elaboration.{Visible, State, counted, bound, seen_from, visible_in, pattern_count, expr_count, listed, each_at, may_call}
use Rattle.isle_rules.specs.Elaboration.{bool_number}

-- what reading comes to
pub data Outcome (A : Type 0) : Type 0 where
  -- the trees stand for this, with this state after them
  stands_for : A → State → Outcome A
  -- a node at this position is ill typed, and all before it is well
  ill_at : Pos → Outcome A
  -- a node is too deep, or one too many, and all before it is well
  exceeds : Outcome A

-- what is known of names while a rule is read
pub record Known : Type 0 where
  -- the number of the term of a name, and a term by its number
  pub term_named : List ℕ → Option ℕ
  pub signature : ℕ → Option Signature
  -- the number of the type of a name, and of that of a constant
  pub type_named : List ℕ → Option ℕ
  pub constant : List ℕ → Option ℕ
  -- whether a literal has the type of a number
  pub has_number : ℕ → ℤ → Bool → Bool
  -- the number of the converter's term of an inner and an outer type
  pub converter : ℕ → ℕ → Option ℕ
  -- whether internal extractors are put in
  pub expands : Bool

-- reading goes on with what was read
abbrev pub and_then : {A B : Type 0} → Outcome A → (A → State → Outcome B) → Outcome B
and_then (stands_for v s) next = next v s
and_then (ill_at at) next = ill_at at
and_then exceeds next = exceeds

-- reading goes on where a test is passed; else its node is ill typed
abbrev pub only_if : {A : Type 0} → Bool → Pos → Outcome A → Outcome A
only_if test at next = if test then next else ill_at at

-- whether the arguments of a term are exactly one, of this type
abbrev pub takes_just : List ℕ → ℕ → Bool
takes_just [] ty = false
takes_just (first ∷ []) ty = first == ty
takes_just (first ∷ (second ∷ others)) ty = false

-- a converter's term with its number, where it takes exactly the inner type, gives the outer one and can be used
abbrev pub fitting_term : (TermForm → Bool) → (inner outer number : ℕ) → Option Signature → Option (ℕ × Signature)
fitting_term is_usable inner outer number None = None
fitting_term is_usable inner outer number (Some term) =
    if takes_just term.args inner && ((term.ret == outer) && is_usable term.form) then Some (number, term) else None

abbrev pub fitting_number : Known → (TermForm → Bool) → (inner outer : ℕ) → Option ℕ → Option (ℕ × Signature)
fitting_number known is_usable inner outer None = None
fitting_number known is_usable inner outer (Some number) = fitting_term is_usable inner outer number (known.signature number)

-- the converter that fits a pair of types and can be used
abbrev pub fitting : Known → (TermForm → Bool) → (inner outer : ℕ) → Option (ℕ × Signature)
fitting known is_usable inner outer = fitting_number known is_usable inner outer (known.converter inner outer)

-- how a pattern is read, at a type and after a state
abbrev pub PatternRun : Type 0
PatternRun = PatternTree → ℕ → State → Outcome TypedPattern

-- how a use of a term is read, at a position, at the term's own type
abbrev pub PatternUse : Type 0
PatternUse = Pos → ℕ → Signature → PatternTrees → State → Outcome TypedPattern

-- patterns, each at its type
abbrev pub each_pattern : PatternRun → Pos → PatternTrees → List ℕ → State → Outcome TypedPatterns
each_pattern r at no_patterns [] s = stands_for no_typed s
each_pattern r at no_patterns (ty ∷ tys) s = ill_at at
each_pattern r at (more_patterns t ts) [] s = ill_at at
each_pattern r at (more_patterns t ts) (ty ∷ tys) s =
    and_then (r t ty s) (λ v m. and_then (each_pattern r at ts tys m) (λ vs s'. stands_for (more_typed v vs) s'))

-- a name alone binds, or demands equality with what it is bound to
abbrev pub use_name : Pos → Option Visible → List ℕ → ℕ → State → Outcome TypedPattern
use_name at None name ty s = stands_for (typed_bind ty (length s.variables) (typed_wildcard ty)) (bound s name ty)
use_name at (Some seen) name ty s = only_if (seen.type == ty) at (stands_for (typed_var ty seen.var) s)

-- a name before `@` binds
abbrev pub bind_name : Pos → Option Visible → List ℕ → ℕ → TypedPattern → State → Outcome TypedPattern
bind_name at None name ty v s = stands_for (typed_bind ty (length s.variables) v) (bound s name ty)
bind_name at (Some seen) name ty v s = ill_at at

-- a constant has its own type
abbrev pub use_constant : Pos → Option ℕ → List ℕ → ℕ → State → Outcome TypedPattern
use_constant at None name ty s = ill_at at
use_constant at (Some own) name ty s = only_if (own == ty) at (stands_for (typed_prim ty name) s)

-- a template's body, where each argument that is to be put in is given
abbrev pub put_in : PatternRun → Pos → Option PatternTree → ℕ → State → Outcome TypedPattern
put_in r at None ty s = ill_at at
put_in r at (Some body) ty s = r body ty s

-- a term takes its value apart: by its template, or as it stands
abbrev pub taken_apart : PatternRun → Pos → ℕ → Signature → Option PatternTree → PatternTrees → State → Outcome TypedPattern
taken_apart r at number term None args s =
    and_then (each_pattern r at args term.args s) (λ us s'. stands_for (typed_term term.ret number us) s')
taken_apart r at number term (Some template) args s = put_in r at (filled (listed args) template) term.ret s

-- the template to be put in for a use of a term
abbrev pub template_in : Known → Signature → Option PatternTree
template_in known term = if known.expands then template_of term.form else None

-- a use of a term at its own type
abbrev pub extract : Known → PatternRun → PatternUse
extract known r at number term args s =
    only_if (pattern_count args == length term.args) at
    (only_if (has_extractor_form term.form) at (taken_apart r at number term (template_in known term) args s))

-- a converter is put around a pattern, where one fits
abbrev pub repair_pattern : PatternUse → Option (ℕ × Signature) → PatternTree → State → Outcome TypedPattern
repair_pattern u None t s = ill_at (pattern_pos t)
repair_pattern u (Some fit) t s = u (pattern_pos t) fit.0 fit.1 (more_patterns t no_patterns) s

-- a use of a term at a type, where the term is known
abbrev pub use_term : Known → PatternRun → PatternUse → Pos → ℕ → Option Signature → PatternTree → PatternTrees → ℕ → State → Outcome TypedPattern
use_term known r u at number None t args ty s = ill_at at
use_term known r u at number (Some term) t args ty s =
    if term.ret == ty then extract known r at number term args s
    else repair_pattern u (fitting known has_extractor_form term.ret ty) t s

-- a use of a term at a type, by the term's number
abbrev pub use_number : Known → PatternRun → PatternUse → Pos → Option ℕ → PatternTree → PatternTrees → ℕ → State → Outcome TypedPattern
use_number known r u at None t args ty s = ill_at at
use_number known r u at (Some number) t args ty s = use_term known r u at number (known.signature number) t args ty s

-- one node of a pattern, over what stands one level deeper: patterns, and uses of converters
abbrev pub pattern_node : Known → PatternRun → PatternUse → PatternRun
pattern_node known r u (pattern_var name at) ty s = use_name at (visible_in s.scope name.0) name.0 ty s
pattern_node known r u (pattern_bind name below at) ty s =
    and_then (r below ty s) (λ v m. bind_name at (visible_in m.scope name.0) name.0 ty v m)
pattern_node known r u (pattern_bool val at) ty s = only_if (ty == bool_number) at (stands_for (typed_bool ty val) s)
pattern_node known r u (pattern_int val big at) ty s = only_if (known.has_number ty val big) at (stands_for (typed_int ty val) s)
pattern_node known r u (pattern_prim name at) ty s = use_constant at (known.constant name.0) name.0 ty s
pattern_node known r u (pattern_term sym args at) ty s =
    use_number known r u at (known.term_named sym.0) (pattern_term sym args at) args ty s
pattern_node known r u (pattern_wildcard at) ty s = stands_for (typed_wildcard ty) s
pattern_node known r u (pattern_and below at) ty s =
    and_then (each_pattern r at below (each_at ty below) s) (λ us s'. stands_for (typed_and ty us) s')
pattern_node known r u (pattern_macro_arg _ at) ty s = ill_at at

-- at most so many nodes in all, and so many levels
abbrev mutual
  pub read_pattern : Known → (max levels : ℕ) → PatternRun
  read_pattern known max zero t ty s = exceeds
  read_pattern known max (suc levels) t ty s =
      if leb max s.nodes then exceeds
      else pattern_node known (read_pattern known max levels) (read_pattern_use known max levels) t ty (counted s)

  -- a use of a converter is a node too
  pub read_pattern_use : Known → (max levels : ℕ) → PatternUse
  read_pattern_use known max zero at number term args s = exceeds
  read_pattern_use known max (suc levels) at number term args s =
      if leb max s.nodes then exceeds else extract known (read_pattern known max levels) at number term args (counted s)

-- how an expression is read, at a type or at none and after a state
abbrev pub ExprRun : Type 0
ExprRun = ExprTree → Option ℕ → State → Outcome TypedExpr

-- how a call of a term is read, at a position, at the term's own type
abbrev pub ExprUse : Type 0
ExprUse = Pos → ℕ → Signature → ExprTrees → State → Outcome TypedExpr

-- whether a type is the one that is expected, if one is
abbrev pub is_expected : Option ℕ → ℕ → Bool
is_expected None ty = true
is_expected (Some wanted) ty = wanted == ty

-- expressions, each at its type
abbrev pub each_expr : ExprRun → Pos → ExprTrees → List ℕ → State → Outcome TypedExprs
each_expr r at no_exprs [] s = stands_for no_built s
each_expr r at no_exprs (ty ∷ tys) s = ill_at at
each_expr r at (more_exprs t ts) [] s = ill_at at
each_expr r at (more_exprs t ts) (ty ∷ tys) s =
    and_then (r t (Some ty) s) (λ v m. and_then (each_expr r at ts tys m) (λ vs s'. stands_for (more_built v vs) s'))

-- a call of a term at its own type
abbrev pub call : (caller : Flags) → ExprRun → ExprUse
call caller r at number term args s =
    only_if (expr_count args == length term.args) at
    (only_if (has_constructor_form term.form) at
    (only_if (may_call caller (flags_of term.form)) at
    (and_then (each_expr r at args term.args s) (λ us s'. stands_for (built_term term.ret number us) s'))))

-- the converter that fits a type and that which is expected
abbrev pub fitting_wanted : Known → (inner : ℕ) → Option ℕ → Option (ℕ × Signature)
fitting_wanted known inner None = None
fitting_wanted known inner (Some ty) = fitting known has_constructor_form inner ty

-- a converter is put around an expression, where one fits
abbrev pub repair_expr : ExprUse → Option (ℕ × Signature) → ExprTree → State → Outcome TypedExpr
repair_expr u None e s = ill_at (expr_pos e)
repair_expr u (Some fit) e s = u (expr_pos e) fit.0 fit.1 (more_exprs e no_exprs) s

-- a call of a term at a type or at none, where the term is known
abbrev pub call_term : Known → (caller : Flags) → ExprRun → ExprUse → Pos → ℕ → Option Signature → ExprTree → ExprTrees → Option ℕ → State
    → Outcome TypedExpr
call_term known caller r u at number None e args want s = ill_at at
call_term known caller r u at number (Some term) e args want s =
    if is_expected want term.ret then call caller r at number term args s
    else repair_expr u (fitting_wanted known term.ret want) e s

-- a call of a term at a type or at none, by the term's number
abbrev pub call_number : Known → (caller : Flags) → ExprRun → ExprUse → Pos → Option ℕ → ExprTree → ExprTrees → Option ℕ → State → Outcome TypedExpr
call_number known caller r u at None e args want s = ill_at at
call_number known caller r u at (Some number) e args want s = call_term known caller r u at number (known.signature number) e args want s

-- a variable at a type or at none
abbrev pub read_variable : Known → ExprUse → Pos → Option Visible → ExprTree → Option ℕ → State → Outcome TypedExpr
read_variable known u at None e want s = ill_at at
read_variable known u at (Some seen) e want s =
    if is_expected want seen.type then stands_for (built_var seen.type seen.var) s
    else repair_expr u (fitting_wanted known seen.type want) e s

-- an integer at a type; at none it is ill typed
abbrev pub read_integer : Known → Pos → ℤ → Bool → Option ℕ → State → Outcome TypedExpr
read_integer known at val big None s = ill_at at
read_integer known at val big (Some ty) s = only_if (known.has_number ty val big) at (stands_for (built_int ty val) s)

-- a constant at a type or at none
abbrev pub read_constant : Pos → Option ℕ → List ℕ → Option ℕ → State → Outcome TypedExpr
read_constant at None name want s = ill_at at
read_constant at (Some ty) name want s = only_if (is_expected want ty) at (stands_for (built_prim ty name) s)

-- a variable of a `let` with its value, and what follows it
abbrev pub bind_value : ExprRun → Pos → Option ℕ → List ℕ → ExprTree → (State → Outcome TypedBindings) → State → Outcome TypedBindings
bind_value r at None name val next s = ill_at at
bind_value r at (Some ty) name val next s =
    and_then (r val (Some ty) s) (λ v m.
    and_then (next (bound m name ty)) (λ others s'. stands_for (more_typed_bindings (length m.variables) ty v others) s'))

-- the variables of a `let`, each after its value and seen by what follows it
abbrev pub bind_values : Known → ExprRun → LetTrees → State → Outcome TypedBindings
bind_values known r no_lets s = stands_for no_typed_bindings s
bind_values known r (more_lets var of_type val _ others) s =
    bind_value r of_type.1 (known.type_named of_type.0) var.0 val (bind_values known r others) s

-- one node of an expression, over what stands one level deeper: expressions, and calls of converters
abbrev pub expr_node : Known → (caller : Flags) → ExprRun → ExprUse → ExprRun
expr_node known caller r u (expr_int val big at) want s = read_integer known at val big want s
expr_node known caller r u (expr_bool val at) want s = only_if (is_expected want bool_number) at (stands_for (built_bool bool_number val) s)
expr_node known caller r u (expr_prim name at) want s = read_constant at (known.constant name.0) name.0 want s
expr_node known caller r u (expr_var name at) want s = read_variable known u at (visible_in s.scope name.0) (expr_var name at) want s
expr_node known caller r u (expr_term sym args at) want s =
    call_number known caller r u at (known.term_named sym.0) (expr_term sym args at) args want s
expr_node known caller r u (expr_let defs body _) want s =
    and_then (bind_values known r defs s) (λ bs m. and_then (r body want m) (λ v e. stands_for (built_let (built_at v) bs v) (seen_from s e)))

-- at most so many nodes in all, and so many levels
abbrev mutual
  pub read_expr : Known → (caller : Flags) → (max levels : ℕ) → ExprRun
  read_expr known caller max zero e want s = exceeds
  read_expr known caller max (suc levels) e want s =
      if leb max s.nodes then exceeds
      else expr_node known caller (read_expr known caller max levels) (read_expr_use known caller max levels) e want (counted s)

  -- a call of a converter is a node too
  pub read_expr_use : Known → (caller : Flags) → (max levels : ℕ) → ExprUse
  read_expr_use known caller max zero at number term args s = exceeds
  read_expr_use known caller max (suc levels) at number term args s =
      if leb max s.nodes then exceeds else call caller (read_expr known caller max levels) at number term args (counted s)
