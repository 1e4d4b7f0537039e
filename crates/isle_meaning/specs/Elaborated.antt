-- Typed rules as elaboration makes them, whatever terms they ask.
use Rattle.std.specs.Prelude.{◌⊎◌, ℕ, List, [], ◌∷◌, false}
use Rattle.isle_rules.specs.TypedRules.{TypedExpr, built_var, built_bool, built_int, built_prim, built_term, built_let, TypedExprs, no_built}
use Rattle.isle_rules.specs.TypedRules.{more_built, TypedIfLet, TypedRule}
use Rattle.isle_meaning.specs.Facts.{TermFacts}
use Rattle.isle_meaning.specs.Demands.{Demand, Among, contents, bound, iflet_site, args_bound, demands_of}
use Rattle.isle_meaning.specs.Needs.{visit, no_log, IsNeeded}
use Rattle.isle_meaning.specs.Sites.{Site, iterator}
use Rattle.isle_meaning.specs.Scopes.{IsWellScopedRule}
use Rattle.isle_meaning.specs.Typing.{RuleIsTyped}

-- what is said of terms, where none is `multi`
abbrev pub without_multi : TermFacts → TermFacts
without_multi facts = record facts { multi = λ t. false }

-- a rule of a term that takes these types, as elaboration makes it: each variable that it reads is bound before, and all is typed
pub record IsElaborated (facts : TermFacts) (tys : List ℕ) (rule : TypedRule) : Type 0 where
  pub well : IsWellScopedRule (without_multi facts) rule
  pub result_type : ℕ
  pub var_types : ℕ → ℕ
  pub typed : RuleIsTyped facts tys result_type var_types rule

-- the expression of an if-let needs the site
abbrev pub IfLetsNeed : TermFacts → List TypedIfLet → (ℕ → Site) → Site → Type 0
IfLetsNeed facts [] vars s = ⊥
IfLetsNeed facts (x ∷ xs) vars s =
    IsNeeded (visit facts vars no_log x.value).1.needed s ⊎ IfLetsNeed facts xs (bound facts x.pattern (iflet_site facts vars x) vars) s

-- Of each multi call in the expressions of if-lets, each content that it is made of has its test among what the rule demands. (The contents
-- of an expression's value have: only a call in a `let` that is not used may have others.)
abbrev pub OpensItsMultiCalls : TermFacts → TypedRule → Type 0
OpensItsMultiCalls facts rule =
    (s : Site) → IfLetsNeed facts rule.iflets (args_bound facts rule) (iterator s) → (d : Demand) → Among (contents s) d
    → Among (demands_of facts rule) d

-- an expression without `let`
abbrev mutual
  pub HasNoLet : TypedExpr → Type 0
  HasNoLet (built_var ty k) = Unit {0}
  HasNoLet (built_bool ty b) = Unit {0}
  HasNoLet (built_int ty n) = Unit {0}
  HasNoLet (built_prim ty n) = Unit {0}
  HasNoLet (built_term ty t es) = HaveNoLet es
  HasNoLet (built_let ty bs body) = ⊥

  -- so are these
  pub HaveNoLet : TypedExprs → Type 0
  HaveNoLet no_built = Unit {0}
  HaveNoLet (more_built e es) = HasNoLet e × HaveNoLet es

-- so are those of if-lets
abbrev pub IfLetsHaveNoLet : List TypedIfLet → Type 0
IfLetsHaveNoLet [] = Unit {0}
IfLetsHaveNoLet (x ∷ xs) = HasNoLet x.value × IfLetsHaveNoLet xs
