-- What typed rules show, where these are the interned names.
use Rattle.std.specs.Prelude.{◌≡◌, ◌≤◌, ℕ, max, List, map, length, Option, None, Some, slice_get}
use Rattle.std.specs.List.{AllZip}
use Rattle.isle_types.specs.declared.ids.Sym.{Sym}
use Rattle.isle_types.specs.TypeEnvs.{CountUp, sym_named}
use Rattle.isle_rules.specs.declared.rules.BoundVar.{BoundVar}
use Rattle.isle_rules.specs.declared.rules.IfLet.{IfLet}
use Rattle.isle_rules.specs.declared.rules.Rule.{Rule}
use Rattle.isle_rules.specs.TypedRules.{Variable, TypedRule}
use Rattle.isle_rules.specs.Shown.ShownRules.{typed_list, typed_shown, built_shown, iflet_shown, greatest, pattern_limit, expr_limit}
use Rattle.std.specs.Option.{option_map, option_and_then}
use Rattle.isle_ast.specs.declared.ast.Def.{Def}
use Rattle.isle_types.specs.Environment.{Environment}
use Rattle.isle_types.specs.TypeTables.{TypeTables}
use Rattle.isle_rules.specs.Definitions.{TermEnvironment, MakesTerms, declared_by, rule_named}
use Rattle.isle_rules.specs.Shown.TermTables.{TermTables, rule_with, rule_at}
use Rattle.isle_rules.specs.Shown.ShownTerms.{ShowsDeclared}

-- all symbols of a condition are below this
abbrev pub iflet_limit : IfLet → ℕ
iflet_limit iflet = max (pattern_limit iflet.lhs) (expr_limit iflet.rhs)

-- a variable
pub record IsShownVariable (names : List (List ℕ)) (variable : Variable) (made : BoundVar) : Type 0 where
  pub name : slice_get names made.name.0 ≡ Some variable.name
  pub type : made.ty.0 ≡ variable.type

-- the name of a rule, if it has one
abbrev pub IsShownName : List (List ℕ) → Option (List ℕ) → Option Sym → Type 0
IsShownName names None None = Unit {0}
IsShownName names None (Some sym) = ⊥
IsShownName names (Some name) None = ⊥
IsShownName names (Some name) (Some sym) = slice_get names sym.0 ≡ Some name

-- a typed rule, whose symbols are known and whose variables count up
pub record IsShownRule (names : List (List ℕ)) (typed : TypedRule) (made : Rule) : Type 0 where
  pub root : made.root_term.0 ≡ typed.root
  pub args : typed_list (map (typed_shown names) made.args) ≡ typed.args
  pub iflets : map (iflet_shown names) made.iflets ≡ typed.iflets
  pub right : built_shown names made.rhs ≡ typed.right
  pub variables : AllZip (IsShownVariable names) typed.variables made.vars
  pub numbers : CountUp (λ (variable : BoundVar). variable.id.0) 0 made.vars
  pub priority : made.prio ≡ typed.priority
  pub pos : made.pos ≡ typed.pos
  pub name : IsShownName names typed.name made.name
  pub arg_symbols : greatest (map pattern_limit made.args) ≤ length names
  pub iflet_symbols : greatest (map iflet_limit made.iflets) ≤ length names
  pub right_symbols : expr_limit made.rhs ≤ length names

-- tables are those of what definitions make: they show its terms, its converters and its typed rules, each rule at the place of its
-- number, and each rule's name leads to its number
pub record ShowsTerms (tyenv : TypeTables) (env : TermTables) (types : Environment) (levels max : ℕ) (defs : List Def) : Type 0 where
  pub environment : TermEnvironment
  pub makes : MakesTerms types env.expands levels max defs environment
  pub declared : ShowsDeclared tyenv env (declared_by types env.expands environment)
  pub rules : AllZip (IsShownRule tyenv.names) environment.rules env.rules
  pub numbers : CountUp (λ (rule : Rule). rule.id.0) 0 env.rules
  pub named : (name : List ℕ) → option_and_then (rule_with env) (sym_named tyenv name) ≡ option_map rule_at (rule_named 0 environment.rules name)
