-- Rules stand for well-typed ones.
use Rattle.std.proofs.Common.{ℕ, pos, Bool, List, [], ◌∷◌, Option, Some, None, unwrap_or, ap, sym, subst, ◌∙◌}
use Rattle.std.specs.Prelude.{All}
use Rattle.std.specs.List.{AllZip}
use Rattle.std.proofs.lemmas.List.Elements.{All-nil, All-cons}
use Rattle.isle_ast.specs.declared.ast.Def.{Def}
use Rattle.isle_ast.specs.declared.ast.IfLet.{IfLet}
use Rattle.isle_ast.specs.declared.ast.Rule.{Rule}
use Rattle.isle_ast.specs.Trees.ExprShape.{expr_of}
use Rattle.isle_types.specs.Environment.{Environment}
use Rattle.isle_rules.specs.TypedRules.{TypedIfLet, TypedRule, Variable}
use Rattle.isle_rules.specs.Signatures.{Flags, Declared}
use Rattle.isle_rules.specs.Elaboration.{State, start, Elaborates, on_lhs, Builds, Conditions, ElaboratesRule}
use Rattle.isle_rules.specs.Definitions.{IsRuleOf, TermEnvironment, declared_by, rules_in, MakesTerms}
use Rattle.isle_rules.specs.SoundRules.WellTyped.{AreTypedIfLets, IsTypedRule}
use Rattle.isle_rules.proofs.Sound.GrowingVariables.{Extends, same_extends, AreTyped}
use Rattle.isle_rules.proofs.Sound.PatternTypes.{each_typed, patterns_typed}
use Rattle.isle_rules.proofs.Sound.ExprTypes.{at_type, exprs_typed}

module _ (declared : Declared) (caller : Flags) (levels : ℕ) where
  conditions_extend : (trees : List IfLet) (s : State) (us : List TypedIfLet) (s' : State) → Conditions declared caller levels trees s us s'
      → Extends s.variables s'.variables
  conditions_extend [] s us s' h = same_extends s s' h.1
  conditions_extend (first ∷ others) s us s' h =
      λ var variable is. conditions_extend others h.3 h.4 s' h.7 var variable
      ((patterns_typed declared levels).grows _ _ h.1 h.2 h.3 h.6 var variable
      ((exprs_typed declared caller levels).grows _ None s h.0 h.1 h.5 var variable is))

  -- what conditions stand for is well typed
  conditions_typed : (trees : List IfLet) (s : State) (us : List TypedIfLet) (s' : State) → Conditions declared caller levels trees s us s'
      → (variables : List Variable) → Extends s'.variables variables → AreTyped variables s.scope
      → AreTypedIfLets declared variables caller us × AreTyped variables s'.scope
  conditions_typed [] s us s' h variables more k = rw (h.0, h.1) (tt, k)
  conditions_typed (first ∷ others) s us s' h variables more k =
      let exprs = exprs_typed declared caller levels in
      let patterns = patterns_typed declared levels in
      let after : Extends h.3.variables variables =
      λ var variable is. more var variable (conditions_extend others h.3 h.4 s' h.7 var variable is) in
      let middle : Extends h.1.variables variables = λ var variable is. after var variable (patterns.grows _ _ h.1 h.2 h.3 h.6 var variable is) in
      let names = exprs.scope _ None s h.0 h.1 h.5 in
      let value = exprs.typed _ None s h.0 h.1 h.5 variables middle k in
      let pattern = patterns.typed _ _ h.1 h.2 h.3 h.6 variables after (subst (λ z. AreTyped variables z) (sym names) k) in
      let rest = conditions_typed others h.3 h.4 s' h.7 variables more pattern.1 in
      rw h.8 ((value, pattern.0, rest.0), rest.1)

-- what a rule stands for is well typed
pub rule_typed : (declared : Declared) (levels max : ℕ) (tree : Rule) (typed : TypedRule) → ElaboratesRule declared levels max tree typed
    → IsTypedRule declared typed
rule_typed declared levels max tree typed h =
    let exprs = exprs_typed declared h.flags levels in
    let last : Extends h.done.variables typed.variables = subst (λ z. Extends h.done.variables z) (sym h.variables) (λ var variable is. is) in
    let met : Extends h.met.variables typed.variables =
    λ var variable is. last var variable (exprs.grows _ (Some h.term.ret) h.met typed.right h.done h.right var variable is) in
    let matched : Extends h.matched.variables typed.variables =
    λ var variable is. met var variable
    (conditions_extend declared (on_lhs h.flags) levels tree.iflets h.matched typed.iflets h.met h.conditions var variable is) in
    let args = each_typed declared (Elaborates declared levels) (patterns_typed declared levels) h.args h.term.args start typed.args h.matched
    h.left typed.variables matched tt in
    let iflets = conditions_typed declared (on_lhs h.flags) levels tree.iflets h.matched typed.iflets h.met h.conditions typed.variables met args.1 in
    record {
      root = h.term;
      flags = h.flags;
      known = h.known;
      ruled = h.ruled;
      args = args.0;
      iflets = iflets.0;
      right = at_type declared h.flags (Builds declared h.flags levels) exprs (expr_of tree.expr) h.term.ret h.met typed.right h.done h.right
          typed.variables last iflets.1;
      unordered = λ multi. h.priority ∙ ap (λ z. unwrap_or z (pos 0)) (h.unordered multi);
    }

-- a rule of another name is well typed too
renamed_typed : (declared : Declared) (rule : TypedRule) (name : Option (List ℕ)) → IsTypedRule declared rule
    → IsTypedRule declared (record rule { name = name })
renamed_typed declared rule name h = record {
  root = h.root;
  flags = h.flags;
  known = h.known;
  ruled = h.ruled;
  args = h.args;
  iflets = h.iflets;
  right = h.right;
  unordered = h.unordered;
}

each_rule_typed : (declared : Declared) (defs : List Def) (levels max : ℕ) (trees : List Rule) (rules : List TypedRule)
    → AllZip (IsRuleOf declared defs levels max) trees rules → All (IsTypedRule declared) rules
each_rule_typed declared defs levels max [] [] each = All-nil (IsTypedRule declared)
each_rule_typed declared defs levels max [] (rule ∷ rules) each = absurd each
each_rule_typed declared defs levels max (tree ∷ trees) [] each = absurd each
each_rule_typed declared defs levels max (tree ∷ trees) (rule ∷ rules) each =
    All-cons (IsTypedRule declared) rule rules
    (subst (IsTypedRule declared) (sym each.0.same)
    (renamed_typed declared each.0.written _ (rule_typed declared levels max tree each.0.written each.0.typed)))
    (each_rule_typed declared defs levels max trees rules each.1)

-- so is each rule of an environment of terms
pub rules_typed : (types : Environment) (expands : Bool) (levels max : ℕ) (defs : List Def) (environment : TermEnvironment)
    → MakesTerms types expands levels max defs environment → All (IsTypedRule (declared_by types expands environment)) environment.rules
rules_typed types expands levels max defs environment makes =
    each_rule_typed (declared_by types expands environment) defs levels max (rules_in defs) environment.rules makes.rules
