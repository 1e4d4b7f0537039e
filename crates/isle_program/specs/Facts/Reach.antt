-- Which terms a call of a term reaches, and which of them can't be run.
use Rattle.std.specs.Prelude.{◌≡◌, ◌⊎◌, ◌==◌, ◌&&◌, ◌||◌, ℕ, Bool, true, false, List, [], ◌∷◌, ◌++◌, map, Option, None, Some, slice_get, Contains}
use Rattle.std.specs.List.{list_any}
use Rattle.isle_types.specs.declared.types.«Type».{«Type» as KnownType}
use Rattle.isle_types.specs.declared.types.«Type».TheVariants.{Builtin, Primitive, Enum as EnumType, Struct as StructType}
use Rattle.isle_types.specs.TypeTables.{TypeTables}
use Rattle.isle_rules.specs.declared.rules.IfLet.{IfLet}
use Rattle.isle_rules.specs.declared.rules.Rule.{Rule}
use Rattle.isle_rules.specs.TypedRules.{TypedPattern, TypedPatterns, typed_bind, typed_var, typed_bool, typed_int, typed_prim, typed_term}
use Rattle.isle_rules.specs.TypedRules.{typed_wildcard, typed_and, no_typed, more_typed, TypedExpr, TypedExprs, TypedBindings, built_term, built_var}
use Rattle.isle_rules.specs.TypedRules.{built_bool, built_int, built_prim, built_let, no_built, more_built, no_typed_bindings, more_typed_bindings}
use Rattle.isle_rules.specs.Shown.TermTables.{TermTables}
use Rattle.isle_rules.specs.Shown.ShownRules.{typed_list, typed_shown, built_shown}
use Rattle.isle_rules.specs.Shown.TermTables.{is_multi_in}

-- a type of data: an enum or a struct
abbrev pub is_data_type : Option KnownType → Bool
is_data_type None = false
is_data_type (Some (Builtin builtin)) = false
is_data_type (Some (Primitive id name at)) = false
is_data_type (Some (EnumType name id is_extern is_nodebug variants at)) = true
is_data_type (Some (StructType name id is_extern is_nodebug fields at)) = true

-- a pattern that takes values apart by a multi term, or names a constant of a type of data
abbrev mutual
  pub is_hindering_pattern : TypeTables → TermTables → TypedPattern → Bool
  is_hindering_pattern tyenv env (typed_bind _ _ below) = is_hindering_pattern tyenv env below
  is_hindering_pattern tyenv env (typed_var _ _) = false
  is_hindering_pattern tyenv env (typed_bool _ _) = false
  is_hindering_pattern tyenv env (typed_int _ _) = false
  is_hindering_pattern tyenv env (typed_prim ty _) = is_data_type (slice_get tyenv.types ty)
  is_hindering_pattern tyenv env (typed_term _ term args) = is_multi_in env term || are_hindering_patterns tyenv env args
  is_hindering_pattern tyenv env (typed_wildcard _) = false
  is_hindering_pattern tyenv env (typed_and _ below) = are_hindering_patterns tyenv env below

  -- some of these
  pub are_hindering_patterns : TypeTables → TermTables → TypedPatterns → Bool
  are_hindering_patterns tyenv env no_typed = false
  are_hindering_patterns tyenv env (more_typed first others) = is_hindering_pattern tyenv env first || are_hindering_patterns tyenv env others

-- an expression that names a constant of a type of data
abbrev mutual
  pub is_hindering_expr : TypeTables → TypedExpr → Bool
  is_hindering_expr tyenv (built_term _ _ args) = are_hindering_exprs tyenv args
  is_hindering_expr tyenv (built_var _ _) = false
  is_hindering_expr tyenv (built_bool _ _) = false
  is_hindering_expr tyenv (built_int _ _) = false
  is_hindering_expr tyenv (built_prim ty _) = is_data_type (slice_get tyenv.types ty)
  is_hindering_expr tyenv (built_let _ bindings body) = are_hindering_bindings tyenv bindings || is_hindering_expr tyenv body

  -- some of these
  pub are_hindering_exprs : TypeTables → TypedExprs → Bool
  are_hindering_exprs tyenv no_built = false
  are_hindering_exprs tyenv (more_built first others) = is_hindering_expr tyenv first || are_hindering_exprs tyenv others

  -- some of these values
  pub are_hindering_bindings : TypeTables → TypedBindings → Bool
  are_hindering_bindings tyenv no_typed_bindings = false
  are_hindering_bindings tyenv (more_typed_bindings _ _ value others) = is_hindering_expr tyenv value || are_hindering_bindings tyenv others

-- a condition with such a pattern or such an expression
abbrev pub is_hindering_iflet : TypeTables → TermTables → IfLet → Bool
is_hindering_iflet tyenv env iflet =
    is_hindering_pattern tyenv env (typed_shown tyenv.names iflet.lhs) || is_hindering_expr tyenv (built_shown tyenv.names iflet.rhs)

-- a rule with such a pattern or such an expression
abbrev pub is_hindering_rule : TypeTables → TermTables → Rule → Bool
is_hindering_rule tyenv env rule =
    are_hindering_patterns tyenv env (typed_list (map (typed_shown tyenv.names) rule.args))
    || (list_any (is_hindering_iflet tyenv env) rule.iflets || is_hindering_expr tyenv (built_shown tyenv.names rule.rhs))

-- a multi term, or one with such a rule
abbrev pub is_hindered : TypeTables → TermTables → ℕ → Bool
is_hindered tyenv env term = is_multi_in env term || list_any (λ rule. (rule.root_term.0 == term) && is_hindering_rule tyenv env rule) env.rules

-- the terms that an expression makes values by
abbrev mutual
  pub terms_in : TypedExpr → List ℕ
  terms_in (built_term _ term args) = term ∷ terms_in_all args
  terms_in (built_var _ _) = []
  terms_in (built_bool _ _) = []
  terms_in (built_int _ _) = []
  terms_in (built_prim _ _) = []
  terms_in (built_let _ bindings body) = terms_in_bound bindings ++ terms_in body

  -- those of a list of expressions
  pub terms_in_all : TypedExprs → List ℕ
  terms_in_all no_built = []
  terms_in_all (more_built first others) = terms_in first ++ terms_in_all others

  -- those of the values of a `let`
  pub terms_in_bound : TypedBindings → List ℕ
  terms_in_bound no_typed_bindings = []
  terms_in_bound (more_typed_bindings _ _ value others) = terms_in value ++ terms_in_bound others

-- those of the values of conditions
abbrev pub terms_in_iflets : List (List ℕ) → List IfLet → List ℕ
terms_in_iflets names [] = []
terms_in_iflets names (first ∷ others) = terms_in (built_shown names first.rhs) ++ terms_in_iflets names others

-- those of the expressions of a rule
abbrev pub terms_made_by : List (List ℕ) → Rule → List ℕ
terms_made_by names rule = terms_in_iflets names rule.iflets ++ terms_in (built_shown names rule.rhs)

-- a rule of a term makes values by a term
pub record IsMadeBy (names : List (List ℕ)) (rules : List Rule) (from to : ℕ) : Type 0 where
  pub rule : Rule
  pub among : Contains rules rule
  pub root : rule.root_term.0 ≡ from
  pub made : Contains (terms_made_by names rule) to

-- a term makes values by a term
abbrev pub MakesValues : TypeTables → TermTables → ℕ → ℕ → Type 0
MakesValues tyenv env = IsMadeBy tyenv.names env.rules

-- a term reaches those that its rules make values by, and those that these reach
pub data Reaches (tyenv : TypeTables) (env : TermTables) : ℕ → ℕ → Type 0 where
  at_once : {from to : ℕ} → MakesValues tyenv env from to → Reaches tyenv env from to
  onwards : {from middle to : ℕ} → MakesValues tyenv env from middle → Reaches tyenv env middle to → Reaches tyenv env from to

-- a term is hindered, or reaches one that is
abbrev pub IsBarred : TypeTables → TermTables → ℕ → Type 0
IsBarred tyenv env term = (is_hindered tyenv env term ≡ true) ⊎ ((to : ℕ) × Reaches tyenv env term to × (is_hindered tyenv env to ≡ true))

-- whether a term is the root of a rule
abbrev pub is_root : TermTables → ℕ → Bool
is_root env term = list_any (λ rule. rule.root_term.0 == term) env.rules

-- a term can be run: it has rules, and neither it nor a term that it reaches is hindered
pub record IsRunnable (tyenv : TypeTables) (env : TermTables) (term : ℕ) : Type 0 where
  pub rules : is_root env term ≡ true
  pub free : is_hindered tyenv env term ≡ false
  pub reached : (to : ℕ) → Reaches tyenv env term to → is_hindered tyenv env to ≡ false
