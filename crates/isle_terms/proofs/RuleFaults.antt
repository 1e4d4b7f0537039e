-- An ill-typed rule stands for nothing; a rule that is too large stands for nothing within the sizes.
use Rattle.std.proofs.Common.{◌≡◌, ℕ, ◌≤◌, inl, inr, List, [], ◌∷◌, None, Some, sym, ap, subst, ◌∙◌, arith, length, slice_get}
use Rattle.std.proofs.lemmas.Option.{same_Some}
use Rattle.isle_ast.specs.declared.pos.Pos.{Pos}
use Rattle.isle_ast.specs.declared.ast.Ident.{Ident}
use Rattle.isle_ast.specs.declared.ast.IfLet.{IfLet}
use Rattle.isle_ast.specs.declared.ast.Rule.{Rule}
use Rattle.isle_ast.specs.Trees.PatternTree.{PatternTrees}
use Rattle.isle_ast.specs.Trees.PatternShape.{pattern_of}
use Rattle.isle_ast.specs.Trees.ExprShape.{expr_of}
use Rattle.isle_rules.specs.TypedRules.{TypedIfLet, TypedRule, built_at}
use Rattle.isle_rules.specs.Signatures.{Flags, Signature, Declared, term_named}
use Rattle.isle_rules.specs.Elaboration.{State, start, pattern_count, EachPattern, Elaborates, on_lhs, Builds, Conditions, ElaboratesRule}
use Rattle.isle_terms.specs.Reaching.{PatternKind, ExprKind, SomePattern, ReachesPattern, ReachesExpr, IsTooLarge}
use Rattle.isle_terms.specs.RuleReaching.{HasRoot, SomeCondition, ReachesInRule, in_argument, in_condition, in_right, IllPatternAt, IllExprAt}
use Rattle.isle_terms.specs.RuleReaching.{IsIllRule, other_number_of_arguments, priority_of_multi, ill_node, IsLargeRule}
use Rattle.isle_rules.proofs.Determined.{each_same, patterns_agree}
use Rattle.isle_rules.proofs.DeterminedExprs.{exprs_agree, conditions_same}
use Rattle.isle_terms.proofs.Growing.{patterns_grow, exprs_grow, conditions_grow}
use Rattle.isle_terms.proofs.Refuting.{IsBound, Refutes, some_refuted, RefutesExprs}
use Rattle.isle_terms.proofs.Impossible.{each_count, always, ill_patterns, ill_exprs, up_to, large_patterns, large_exprs}
use Rattle.isle_rules.proofs.RuleLaws.{same_parts, same_flags}

-- a rule has one root
root_is_one : (declared : Declared) (m max : ℕ) (tree : Rule) (typed : TypedRule) (term : Signature) (flags : Flags) (args : PatternTrees)
    → HasRoot declared tree term flags args → (k : ElaboratesRule declared m max tree typed) → (term ≡ k.term) × (flags ≡ k.flags) × (args ≡ k.args)
root_is_one declared m max tree typed term flags args h k =
    let parts = same_parts (pattern_of tree.pattern) h.sym k.sym args k.args h.at k.shape.0 h.shape k.shape.1 in
    let number : h.number ≡ typed.root = same_Some _ _ (sym h.root ∙ ap (λ (z : Ident). term_named declared z.0) parts.0 ∙ k.root) in
    let same : term ≡ k.term = same_Some _ _ (sym h.known ∙ ap (slice_get declared.terms) number ∙ k.known) in
    (same, same_flags k.term.form flags k.flags _ _ _ _ (ap (λ (z : Signature). z.form) (sym same) ∙ h.ruled.1) k.ruled.1, parts.1)

module _ (declared : Declared) (W : ℕ → Type 0) (bounds : IsBound W) (KP : PatternKind) (KE : Flags → ExprKind) (n m : ℕ)
    (patterns : Refutes W (ReachesPattern declared KP n) (Elaborates declared m))
    (exprs : (caller : Flags) → RefutesExprs W (ReachesExpr declared caller (KE caller) n) (Builds declared caller m)) where
  condition_refuted : (caller : Flags) (trees : List IfLet) (s : State) (us : List TypedIfLet) (s' : State)
      → SomeCondition declared caller KP (KE caller) n trees s → Conditions declared caller m trees s us s' → W s'.nodes → ⊥
  condition_refuted caller [] s us s' h k w = h
  condition_refuted caller (first ∷ others) s us s' h k w =
      let later = conditions_grow declared caller m others k.3 k.4 s' k.7 in
      let pattern = (patterns_grow declared m).grows (pattern_of first.pattern) (built_at k.0) k.1 k.2 k.3 k.6 in
      elim h [
        | inl p ↦ (exprs caller).refuted (expr_of first.expr) None s k.0 k.1 p k.5 (bounds.fewer k.1.nodes s'.nodes (omega arith) w)
        | inr p ↦
            let value = (exprs_agree declared caller n m).same (expr_of first.expr) None s p.0 k.0 p.1 k.1 p.2 k.5 in
            elim p.3 [
              | inl q ↦ patterns.refuted (pattern_of first.pattern) (built_at k.0) k.1 k.2 k.3
                  (subst (λ z. ReachesPattern declared KP n (pattern_of first.pattern) (built_at k.0) z) value.1
                  (subst (λ z. ReachesPattern declared KP n (pattern_of first.pattern) (built_at z) p.1) value.0 q)) k.6
                  (bounds.fewer k.3.nodes s'.nodes later w)
              | inr q ↦
                  let moved = subst (λ z. Elaborates declared n (pattern_of first.pattern) (built_at k.0) z q.0 q.1) value.1
                  (subst (λ z. Elaborates declared n (pattern_of first.pattern) (built_at z) p.1 q.0 q.1) value.0 q.2) in
                  let same = (patterns_agree declared n m).same (pattern_of first.pattern) (built_at k.0) k.1 q.0 k.2 q.1 k.3 moved k.6 in
                  condition_refuted caller others k.3 k.4 s' (subst (λ z. SomeCondition declared caller KP (KE caller) n others z) same.1 q.3) k.7 w
            ]
      ]

  pub rule_refuted : (max : ℕ) (tree : Rule) (typed : TypedRule) → ReachesInRule declared KP KE n tree
      → (k : ElaboratesRule declared m max tree typed) → W k.done.nodes → ⊥
  rule_refuted max tree typed (in_argument term flags args root h) k w =
      let same = root_is_one declared m max tree typed term flags args root k in
      let met = conditions_grow declared (on_lhs k.flags) m tree.iflets k.matched typed.iflets k.met k.conditions in
      let done = (exprs_grow declared k.flags m).grows (expr_of tree.expr) (Some k.term.ret) k.met typed.right k.done k.right in
      some_refuted W bounds (ReachesPattern declared KP n) (Elaborates declared n) (Elaborates declared m) (patterns_agree declared n m)
      (patterns_grow declared m) patterns
      k.args k.term.args start typed.args k.matched
      (subst (λ z. SomePattern (Elaborates declared n) (ReachesPattern declared KP n) z k.term.args start) same.2
      (subst (λ (z : Signature). SomePattern (Elaborates declared n) (ReachesPattern declared KP n) args z.args start) same.0 h))
      k.left (bounds.fewer k.matched.nodes k.done.nodes (omega arith) w)
  rule_refuted max tree typed (in_condition term flags args us matched root left h) k w =
      let same = root_is_one declared m max tree typed term flags args root k in
      let done = (exprs_grow declared k.flags m).grows (expr_of tree.expr) (Some k.term.ret) k.met typed.right k.done k.right in
      let moved = subst (λ z. EachPattern (Elaborates declared n) z k.term.args start us matched) same.2
      (subst (λ (z : Signature). EachPattern (Elaborates declared n) args z.args start us matched) same.0 left) in
      let at = each_same (Elaborates declared n) (Elaborates declared m)
      (patterns_agree declared n m) k.args k.term.args start us typed.args matched k.matched moved k.left in
      condition_refuted (on_lhs k.flags) tree.iflets k.matched typed.iflets k.met
      (subst (λ z. SomeCondition declared (on_lhs k.flags) KP (KE (on_lhs k.flags)) n tree.iflets z) at.1
      (subst (λ z. SomeCondition declared (on_lhs z) KP (KE (on_lhs z)) n tree.iflets matched) same.1 h))
      k.conditions (bounds.fewer k.met.nodes k.done.nodes done w)
  rule_refuted max tree typed (in_right term flags args us matched iflets met root left asked h) k w =
      let same = root_is_one declared m max tree typed term flags args root k in
      let moved = subst (λ z. EachPattern (Elaborates declared n) z k.term.args start us matched) same.2
      (subst (λ (z : Signature). EachPattern (Elaborates declared n) args z.args start us matched) same.0 left) in
      let at = each_same (Elaborates declared n) (Elaborates declared m)
      (patterns_agree declared n m) k.args k.term.args start us typed.args matched k.matched moved k.left in
      let conditions = subst (λ z. Conditions declared (on_lhs k.flags) n tree.iflets z iflets met) at.1
      (subst (λ z. Conditions declared (on_lhs z) n tree.iflets matched iflets met) same.1 asked) in
      let then = conditions_same declared (on_lhs k.flags) n m tree.iflets k.matched iflets typed.iflets met k.met conditions k.conditions in
      (exprs k.flags).refuted (expr_of tree.expr) (Some k.term.ret) k.met typed.right k.done
      (subst (λ z. ReachesExpr declared k.flags (KE k.flags) n (expr_of tree.expr) (Some k.term.ret) z) then.1
      (subst (λ (z : Signature). ReachesExpr declared k.flags (KE k.flags) n (expr_of tree.expr) (Some z.ret) met) same.0
      (subst (λ z. ReachesExpr declared z (KE z) n (expr_of tree.expr) (Some term.ret) met) same.1 h)))
      k.right w

-- an ill-typed rule stands for nothing, in however many levels and nodes
pub ill_rule : (declared : Declared) (n m max : ℕ) (tree : Rule) (at : Pos) (typed : TypedRule) → IsIllRule declared n tree at
    → ElaboratesRule declared m max tree typed → ⊥
ill_rule declared n m max tree _ typed (other_number_of_arguments term flags args root other) k =
    let same = root_is_one declared m max tree typed term flags args root k in
    other (ap pattern_count same.2 ∙ each_count (Elaborates declared m) k.args k.term.args start typed.args k.matched k.left
    ∙ ap (λ (z : Signature). length z.args) (sym same.0))
ill_rule declared n m max tree _ typed (priority_of_multi term flags args root multi prio) k =
    let same = root_is_one declared m max tree typed term flags args root k in
    prio (k.unordered (ap (λ (z : Flags). z.multi) (sym same.1) ∙ multi))
ill_rule declared n m max tree at typed (ill_node _ h) k =
    rule_refuted declared (λ _. Unit {0}) always (IllPatternAt declared at) (IllExprAt declared at) n m
    (ill_patterns declared at n m) (λ caller. ill_exprs declared caller at n m) max tree typed h k tt

-- a rule that is too large stands for nothing within the sizes
pub large_rule : (declared : Declared) (levels max : ℕ) (tree : Rule) (typed : TypedRule) → IsLargeRule declared levels max tree
    → ElaboratesRule declared levels max tree typed → ⊥
large_rule declared levels max tree typed h k =
    rule_refuted declared (λ nodes. nodes ≤ max) (up_to max) (λ left t ty s. IsTooLarge max left s)
    (λ caller left e want s. IsTooLarge max left s) levels levels
    (large_patterns declared max levels levels (omega arith))
    (λ caller. large_exprs declared caller max levels levels (omega arith)) max tree typed h k k.within
