-- The integers of typed rules have 128 bits where those of their trees have.
use Rattle.std.proofs.Common.{◌≡◌, inl, inr, ℕ, zero, suc, List, [], ◌∷◌, Option, Some, None, slice_get, sym, subst}
use Rattle.std.specs.Prelude.{FitsSigned}
use Rattle.std.specs.Int.{w128}
use Rattle.std.specs.List.{AllZip}
use Rattle.std.proofs.lemmas.Option.{same_Some, none-some}
use Rattle.isle_ast.specs.declared.ast.Def.{Def}
use Rattle.isle_ast.specs.declared.ast.IfLet.{IfLet}
use Rattle.isle_ast.specs.declared.ast.Rule.{Rule as RuleTree}
use Rattle.isle_ast.specs.Trees.ExprTree.{ExprTree, ExprTrees, LetTrees, expr_term, expr_var, expr_bool, expr_int, expr_prim, expr_let}
use Rattle.isle_ast.specs.Trees.ExprTree.{no_exprs, more_exprs, no_lets, more_lets}
use Rattle.isle_ast.specs.Trees.ExprShape.{expr_of}
use Rattle.isle_rules.specs.TypedRules.{TypedExpr, TypedExprs, TypedBindings, built_var, built_bool, built_int, built_prim, built_term, built_let}
use Rattle.isle_rules.specs.TypedRules.{no_built, more_built, no_typed_bindings, more_typed_bindings, TypedIfLet, TypedRule}
use Rattle.isle_rules.specs.Signatures.{Flags, Declared}
use Rattle.isle_rules.specs.Elaboration.{State, counted, bound, on_lhs, ExprJudgement, EachExpr, Binds, ExprNode, Builds, Conditions}
use Rattle.isle_rules.specs.Elaboration.{ElaboratesRule}
use Rattle.isle_rules.specs.Definitions.{IsRuleOf}
use Rattle.isle_program.proofs.SoundPrograms.FittingTexts.{ExprFits, ExprsFit, LetsFit, IfLetsFit, RuleFits, RulesFit}

-- each integer of a typed expression has 128 bits
abbrev mutual
  pub BuiltFits : TypedExpr → Type 0
  BuiltFits (built_var ty k) = Unit {0}
  BuiltFits (built_bool ty b) = Unit {0}
  BuiltFits (built_int ty n) = FitsSigned w128 n
  BuiltFits (built_prim ty name) = Unit {0}
  BuiltFits (built_term ty t es) = AllBuiltFit es
  BuiltFits (built_let ty bs body) = BindingsFit bs × BuiltFits body

  pub AllBuiltFit : TypedExprs → Type 0
  AllBuiltFit no_built = Unit {0}
  AllBuiltFit (more_built e es) = BuiltFits e × AllBuiltFit es

  pub BindingsFit : TypedBindings → Type 0
  BindingsFit no_typed_bindings = Unit {0}
  BindingsFit (more_typed_bindings k ty e bs) = BuiltFits e × BindingsFit bs

-- so of conditions and of a rule
abbrev pub ConditionsFit : List TypedIfLet → Type 0
ConditionsFit [] = Unit {0}
ConditionsFit (x ∷ xs) = BuiltFits x.value × ConditionsFit xs

abbrev pub TypedRuleFits : TypedRule → Type 0
TypedRuleFits rule = ConditionsFit rule.iflets × BuiltFits rule.right

-- a judgement makes such expressions of such trees
record KeepsFit (R : ExprJudgement) : Type 0 where
  keeps : (e : ExprTree) (want : Option ℕ) (s : State) (u : TypedExpr) (s' : State) → R e want s u s' → ExprFits e → BuiltFits u

module _ (declared : Declared) (caller : Flags) (R : ExprJudgement) (c : KeepsFit R) where
  each_fit : (ts : ExprTrees) (tys : List ℕ) (s : State) (us : TypedExprs) (s' : State) → EachExpr R ts tys s us s' → ExprsFit ts
      → AllBuiltFit us
  each_fit no_exprs [] s us s' h f = subst AllBuiltFit (sym h.0) tt
  each_fit no_exprs (ty ∷ tys) s us s' h f = absurd h
  each_fit (more_exprs t ts) [] s us s' h f = absurd h
  each_fit (more_exprs t ts) (ty ∷ tys) s us s' h f =
      subst AllBuiltFit (sym h.5) (c.keeps t (Some ty) s h.0 h.1 h.3 f.0, each_fit ts tys h.1 h.2 s' h.4 f.1)

  binds_fit : (defs : LetTrees) (s : State) (bs : TypedBindings) (s' : State) → Binds declared.types R defs s bs s' → LetsFit defs
      → BindingsFit bs
  binds_fit no_lets s bs s' h f = subst BindingsFit (sym h.0) tt
  binds_fit (more_lets var of_type val pos others) s bs s' h f =
      subst BindingsFit (sym h.7) (c.keeps val (Some h.0) s h.1 h.2 h.5 f.0, binds_fit others (bound h.2 var.0 h.0) h.3 s' h.6 f.1)

  node_fits : (e : ExprTree) (want : Option ℕ) (s : State) (u : TypedExpr) (s' : State) → ExprNode declared caller R e want s u s'
      → ExprFits e → BuiltFits u
  node_fits (expr_int val big pos) want s u s' h f = subst BuiltFits (sym h.3) f
  node_fits (expr_bool val pos) want s u s' h f = subst BuiltFits (sym h.1) tt
  node_fits (expr_prim name pos) want s u s' h f = subst BuiltFits (sym h.3) tt
  node_fits (expr_var name pos) want s u s' h f = elim h.2 [
    | inl k ↦ subst BuiltFits (sym k.1) tt
    | inr k ↦ c.keeps _ want s u s' k.repaired (f, tt)
  ]
  node_fits (expr_term name args pos) want s u s' h f = elim h.4 [
    | inl k ↦ subst BuiltFits (sym k.made) (each_fit args h.1.args s k.values s' k.each f)
    | inr k ↦ c.keeps _ want s u s' k.repaired (f, tt)
  ]
  node_fits (expr_let defs body pos) want s u s' h f =
      subst BuiltFits (sym h.6) (binds_fit defs s h.0 h.1 h.4 f.0, c.keeps body want h.1 h.2 h.3 h.5 f.1)

-- so does elaboration, whatever the levels
builds_fit : (declared : Declared) (caller : Flags) (levels : ℕ) → KeepsFit (Builds declared caller levels)
builds_fit declared caller zero = record { keeps = λ e want s u s' h f. absurd h }
builds_fit declared caller (suc levels) = record {
  keeps = λ e want s u s' h f.
      node_fits declared caller (Builds declared caller levels) (builds_fit declared caller levels) e want (counted s) u s' h f;
}

conditions_fit : (declared : Declared) (caller : Flags) (levels : ℕ) (trees : List IfLet) (s : State) (us : List TypedIfLet) (s' : State)
    → Conditions declared caller levels trees s us s' → IfLetsFit trees → ConditionsFit us
conditions_fit declared caller levels [] s us s' h f = subst ConditionsFit (sym h.0) tt
conditions_fit declared caller levels (first ∷ others) s us s' h f =
    subst ConditionsFit (sym h.8) (
      (builds_fit declared caller levels).keeps _ None s h.0 h.1 h.5 f.0,
      conditions_fit declared caller levels others h.3 h.4 s' h.7 f.1,
    )

rule_fits : (declared : Declared) (levels max : ℕ) (tree : RuleTree) (typed : TypedRule) → ElaboratesRule declared levels max tree typed
    → RuleFits tree → TypedRuleFits typed
rule_fits declared levels max tree typed h f = (
  conditions_fit declared (on_lhs h.flags) levels tree.iflets h.matched typed.iflets h.met h.conditions f.0,
  (builds_fit declared h.flags levels).keeps (expr_of tree.expr) (Some h.term.ret) h.met typed.right h.done h.right f.1,
)

-- the integers of the typed rules of rules
pub typed_rules_fit : (declared : Declared) (defs : List Def) (levels max : ℕ) (trees : List RuleTree) (rules : List TypedRule)
    → AllZip (IsRuleOf declared defs levels max) trees rules → RulesFit trees → (i : ℕ) (rule : TypedRule) → slice_get rules i ≡ Some rule
    → TypedRuleFits rule
typed_rules_fit declared defs levels max [] [] each f i rule at = absurd (none-some rule at)
typed_rules_fit declared defs levels max [] (r ∷ rules) each f i rule at = absurd each
typed_rules_fit declared defs levels max (tree ∷ trees) [] each f i rule at = absurd each
typed_rules_fit declared defs levels max (tree ∷ trees) (r ∷ rules) each f zero rule at =
    let written = rule_fits declared levels max tree each.0.written each.0.typed f.0 in
    let whole : TypedRuleFits r = subst TypedRuleFits (sym each.0.same) written in
    subst TypedRuleFits (same_Some r rule at) whole
typed_rules_fit declared defs levels max (tree ∷ trees) (r ∷ rules) each f (suc i) rule at =
    typed_rules_fit declared defs levels max trees rules each.1 f.1 i rule at
