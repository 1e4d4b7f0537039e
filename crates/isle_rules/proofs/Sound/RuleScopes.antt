-- Rules stand for ones that bind variables in order.
use Rattle.std.proofs.Common.{ℕ, Bool, List, [], ◌∷◌, length, Option, Some, None, refl, sym, subst}
use Rattle.std.specs.Prelude.{All}
use Rattle.std.specs.List.{AllZip}
use Rattle.std.proofs.lemmas.List.Elements.{All-nil, All-cons}
use Rattle.isle_ast.specs.declared.ast.Def.{Def}
use Rattle.isle_ast.specs.declared.ast.IfLet.{IfLet}
use Rattle.isle_ast.specs.declared.ast.Rule.{Rule}
use Rattle.isle_ast.specs.Trees.ExprShape.{expr_of}
use Rattle.isle_types.specs.Environment.{Environment}
use Rattle.isle_rules.specs.TypedRules.{TypedIfLet, TypedRule, Variable}
use Rattle.isle_rules.specs.Signatures.{Flags, Declared}
use Rattle.isle_rules.specs.Elaboration.{State, start, Elaborates, on_lhs, Conditions, ElaboratesRule}
use Rattle.isle_rules.specs.Definitions.{IsRuleOf, TermEnvironment, declared_by, rules_in, MakesTerms}
use Rattle.isle_rules.specs.SoundRules.KeptScopes.{PatternBinds, ExprUses, IfLetsBind, KeepsScopes}
use Rattle.isle_rules.proofs.Sound.PatternScopes.{scope_of, each_binds, patterns_bind}
use Rattle.isle_rules.proofs.Sound.ExprTypes.{exprs_typed}
use Rattle.isle_rules.proofs.Sound.ExprScopes.{same_scope, exprs_use}

-- what conditions stand for uses and binds variables in order
conditions_bind : (declared : Declared) (caller : Flags) (levels : ℕ) (trees : List IfLet) (s : State) (us : List TypedIfLet) (s' : State)
    → Conditions declared caller levels trees s us s' → IfLetsBind us (scope_of s) (scope_of s')
conditions_bind declared caller levels [] s us s' h = rw (h.0, h.1) refl
conditions_bind declared caller levels (first ∷ others) s us s' h =
    let value = exprs_use declared caller levels _ None s h.0 h.1 h.5 in
    let names = (exprs_typed declared caller levels).scope _ None s h.0 h.1 h.5 in
    let pattern = subst (λ z. PatternBinds h.2 z (scope_of h.3)) (same_scope s h.1 names)
    (patterns_bind declared levels _ _ h.1 h.2 h.3 h.6) in
    let rest = conditions_bind declared caller levels others h.3 h.4 s' h.7 in
    rw h.8 (length h.1.variables, scope_of h.3, value, pattern, rest)

-- what a rule stands for binds variables in order
pub rule_keeps_scopes : (declared : Declared) (levels max : ℕ) (tree : Rule) (typed : TypedRule) → ElaboratesRule declared levels max tree typed
    → KeepsScopes typed
rule_keeps_scopes declared levels max tree typed h =
    let right = exprs_use declared h.flags levels (expr_of tree.expr) (Some h.term.ret) h.met typed.right h.done h.right in
    record {
      matched = scope_of h.matched;
      met = scope_of h.met;
      args = each_binds declared (Elaborates declared levels) (patterns_bind declared levels) h.args h.term.args start typed.args h.matched h.left;
      iflets = conditions_bind declared (on_lhs h.flags) levels tree.iflets h.matched typed.iflets h.met h.conditions;
      right = subst (λ (z : List Variable). ExprUses typed.right (scope_of h.met) (length z)) (sym h.variables) right;
    }

-- so does a rule of another name
renamed_keeps : (rule : TypedRule) (name : Option (List ℕ)) → KeepsScopes rule → KeepsScopes (record rule { name = name })
renamed_keeps rule name h = record { matched = h.matched; met = h.met; args = h.args; iflets = h.iflets; right = h.right }

each_rule_keeps : (declared : Declared) (defs : List Def) (levels max : ℕ) (trees : List Rule) (rules : List TypedRule)
    → AllZip (IsRuleOf declared defs levels max) trees rules → All KeepsScopes rules
each_rule_keeps declared defs levels max [] [] each = All-nil KeepsScopes
each_rule_keeps declared defs levels max [] (rule ∷ rules) each = absurd each
each_rule_keeps declared defs levels max (tree ∷ trees) [] each = absurd each
each_rule_keeps declared defs levels max (tree ∷ trees) (rule ∷ rules) each =
    All-cons KeepsScopes rule rules
    (subst KeepsScopes (sym each.0.same)
    (renamed_keeps each.0.written _ (rule_keeps_scopes declared levels max tree each.0.written each.0.typed)))
    (each_rule_keeps declared defs levels max trees rules each.1)

-- and each rule of an environment of terms
pub rules_keep_scopes : (types : Environment) (expands : Bool) (levels max : ℕ) (defs : List Def) (environment : TermEnvironment)
    → MakesTerms types expands levels max defs environment → All KeepsScopes environment.rules
rules_keep_scopes types expands levels max defs environment makes =
    each_rule_keeps (declared_by types expands environment) defs levels max (rules_in defs) environment.rules makes.rules
