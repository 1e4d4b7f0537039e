-- Patterns stand for well-typed ones.
use Rattle.std.proofs.Common.{◌≡◌, ℕ, zero, suc, inl, inr, true, List, [], ◌∷◌, Option, Some, None, slice_get, refl, subst}
use Rattle.isle_ast.specs.Trees.PatternTree.{PatternTree, PatternTrees, pattern_var, pattern_bind, pattern_bool, pattern_int, pattern_prim}
use Rattle.isle_ast.specs.Trees.PatternTree.{pattern_term, pattern_wildcard, pattern_and, pattern_macro_arg, no_patterns, more_patterns}
use Rattle.isle_rules.specs.TypedRules.{TypedPattern, TypedPatterns, Variable}
use Rattle.isle_rules.specs.Signatures.{Signature, Declared, put_in_for, has_extractor_form}
use Rattle.isle_rules.specs.Elaboration.{State, counted, bound, each_at, PatternJudgement, EachPattern, TakesApart, PatternNode, Elaborates}
use Rattle.isle_rules.specs.SoundRules.WellTyped.{HasType, same_for_each, IsTypedPattern, AreTypedPatterns}
use Rattle.isle_rules.proofs.Sound.GrowingVariables.{Extends, same_extends, bound_extends, bound_has_type, AreTyped, seen_typed}

-- a judgement of patterns only adds variables, and makes well-typed patterns
pub record TypesPatterns (declared : Declared) (R : PatternJudgement) : Type 0 where
  pub grows : (t : PatternTree) (ty : ℕ) (s : State) (u : TypedPattern) (s' : State) → R t ty s u s' → Extends s.variables s'.variables
  pub typed : (t : PatternTree) (ty : ℕ) (s : State) (u : TypedPattern) (s' : State) → R t ty s u s' → (variables : List Variable)
      → Extends s'.variables variables → AreTyped variables s.scope → IsTypedPattern declared variables ty u × AreTyped variables s'.scope

module _ (declared : Declared) (R : PatternJudgement) (c : TypesPatterns declared R) where
  pub each_extends : (ts : PatternTrees) (tys : List ℕ) (s : State) (us : TypedPatterns) (s' : State) → EachPattern R ts tys s us s'
      → Extends s.variables s'.variables
  each_extends no_patterns [] s us s' h = same_extends s s' h.1
  each_extends no_patterns (ty ∷ tys) s us s' h = absurd h
  each_extends (more_patterns t ts) [] s us s' h = absurd h
  each_extends (more_patterns t ts) (ty ∷ tys) s us s' h =
      λ var variable is. each_extends ts tys h.1 h.2 s' h.4 var variable (c.grows t ty s h.0 h.1 h.3 var variable is)

  pub each_typed : (ts : PatternTrees) (tys : List ℕ) (s : State) (us : TypedPatterns) (s' : State) → EachPattern R ts tys s us s'
      → (variables : List Variable) → Extends s'.variables variables → AreTyped variables s.scope
      → AreTypedPatterns declared variables tys us × AreTyped variables s'.scope
  each_typed no_patterns [] s us s' h variables more k = rw (h.0, h.1) (tt, k)
  each_typed no_patterns (ty ∷ tys) s us s' h variables more k = absurd h
  each_typed (more_patterns t ts) [] s us s' h variables more k = absurd h
  each_typed (more_patterns t ts) (ty ∷ tys) s us s' h variables more k =
      let first = c.typed t ty s h.0 h.1 h.3 variables
      (λ var variable is. more var variable (each_extends ts tys h.1 h.2 s' h.4 var variable is)) k in
      let others = each_typed ts tys h.1 h.2 s' h.4 variables more first.1 in
      rw h.5 ((first.0, others.0), others.1)

  -- the types of alternatives, by the typed patterns
  same_each : (ts : PatternTrees) (ty : ℕ) (s : State) (us : TypedPatterns) (s' : State) → EachPattern R ts (each_at ty ts) s us s'
      → each_at ty ts ≡ same_for_each ty us
  same_each no_patterns ty s us s' h = rw h.0 refl
  same_each (more_patterns t ts) ty s us s' h = let others = same_each ts ty h.1 h.2 s' h.4 in rw h.5 (λ i. ty ∷ others i)

  taken_extends : (term : Signature) (number : ℕ) (template : Option PatternTree) (args : PatternTrees) (ty : ℕ) (s : State) (u : TypedPattern)
      (s' : State) → TakesApart R term number template args ty s u s' → Extends s.variables s'.variables
  taken_extends term number None args ty s u s' h = each_extends args term.args s h.0 s' h.1
  taken_extends term number (Some template) args ty s u s' h = c.grows h.0 ty s u s' h.2

  taken_typed : (term : Signature) (number : ℕ) (template : Option PatternTree) (args : PatternTrees) (ty : ℕ) (s : State) (u : TypedPattern)
      (s' : State) → slice_get declared.terms number ≡ Some term → term.ret ≡ ty → has_extractor_form term.form ≡ true
      → put_in_for declared term ≡ template → TakesApart R term number template args ty s u s'
      → (variables : List Variable) → Extends s'.variables variables → AreTyped variables s.scope
      → IsTypedPattern declared variables ty u × AreTyped variables s'.scope
  taken_typed term number None args ty s u s' known type usable put h variables more k =
      let each = each_typed args term.args s h.0 s' h.1 variables more k in
      rw h.2 ((refl, record { term = term; known = known; type = type; usable = usable; whole = put; args = each.0 }), each.1)
  taken_typed term number (Some template) args ty s u s' known type usable put h variables more k =
      c.typed h.0 ty s u s' h.2 variables more k

  node_extends : (t : PatternTree) (ty : ℕ) (s : State) (u : TypedPattern) (s' : State)
      → PatternNode declared R t ty s u s' → Extends s.variables s'.variables
  node_extends (pattern_var name pos) ty s u s' (inl h) = rw h.2 (bound_extends s name.0 ty)
  node_extends (pattern_var name pos) ty s u s' (inr h) = same_extends s s' h.4
  node_extends (pattern_bind name below pos) ty s u s' h =
      rw h.5 (λ var variable is. bound_extends h.1 name.0 ty var variable (c.grows below ty s h.0 h.1 h.2 var variable is))
  node_extends (pattern_bool val pos) ty s u s' h = same_extends s s' h.2
  node_extends (pattern_int val big pos) ty s u s' h = same_extends s s' h.2
  node_extends (pattern_prim name pos) ty s u s' h = same_extends s s' h.2
  node_extends (pattern_term name args pos) ty s u s' h = elim h.4 [
    | inl k ↦ taken_extends h.1 h.0 (put_in_for declared h.1) args ty s u s' k.taken
    | inr k ↦ c.grows _ ty s u s' k.repaired
  ]
  node_extends (pattern_wildcard pos) ty s u s' h = same_extends s s' h.1
  node_extends (pattern_and below pos) ty s u s' h = each_extends below (each_at ty below) s h.0 s' h.1
  node_extends (pattern_macro_arg place pos) ty s u s' h = absurd h

  node_typed : (t : PatternTree) (ty : ℕ) (s : State) (u : TypedPattern) (s' : State)
      → PatternNode declared R t ty s u s' → (variables : List Variable) → Extends s'.variables variables → AreTyped variables s.scope
      → IsTypedPattern declared variables ty u × AreTyped variables s'.scope
  node_typed (pattern_var name pos) ty s u s' (inl h) variables more k =
      let own = bound_has_type s name.0 ty variables (subst (λ (z : State). Extends z.variables variables) h.2 more) in
      rw (h.1, h.2) ((refl, own, refl), (own, k))
  node_typed (pattern_var name pos) ty s u s' (inr h) variables more k =
      let own = seen_typed variables s.scope name.0 h.0 k h.1 in
      rw (h.3, h.4) ((refl, subst (λ z. HasType variables h.0.var z) h.2 own), k)
  node_typed (pattern_bind name below pos) ty s u s' h variables more k =
      let longer : Extends (bound h.1 name.0 ty).variables variables = subst (λ (z : State). Extends z.variables variables) h.5 more in
      let own = bound_has_type h.1 name.0 ty variables longer in
      let inside = c.typed below ty s h.0 h.1 h.2 variables
      (λ var variable is. longer var variable (bound_extends h.1 name.0 ty var variable is)) k in
      rw (h.4, h.5) ((refl, own, inside.0), (own, inside.1))
  node_typed (pattern_bool val pos) ty s u s' h variables more k = rw (h.1, h.2) ((refl, h.0), k)
  node_typed (pattern_int val big pos) ty s u s' h variables more k = rw (h.1, h.2) ((refl, (big, h.0)), k)
  node_typed (pattern_prim name pos) ty s u s' h variables more k = rw (h.1, h.2) ((refl, h.0), k)
  node_typed (pattern_term name args pos) ty s u s' h variables more k = elim h.4 [
    | inl e ↦ taken_typed h.1 h.0 (put_in_for declared h.1) args ty s u s' h.3 e.type e.usable refl e.taken variables more k
    | inr e ↦ c.typed _ ty s u s' e.repaired variables more k
  ]
  node_typed (pattern_wildcard pos) ty s u s' h variables more k = rw (h.0, h.1) (refl, k)
  node_typed (pattern_and below pos) ty s u s' h variables more k =
      let each = each_typed below (each_at ty below) s h.0 s' h.1 variables more k in
      let types = same_each below ty s h.0 s' h.1 in
      rw h.2 ((refl, subst (λ tys. AreTypedPatterns declared variables tys h.0) types each.0), each.1)
  node_typed (pattern_macro_arg place pos) ty s u s' h variables more k = absurd h

-- what a pattern stands for is well typed, whatever the levels
pub patterns_typed : (declared : Declared) (levels : ℕ) → TypesPatterns declared (Elaborates declared levels)
patterns_typed declared zero = record { grows = λ t ty s u s' h. absurd h; typed = λ t ty s u s' h. absurd h }
patterns_typed declared (suc levels) = record {
  grows = λ t ty s u s' h. node_extends declared (Elaborates declared levels) (patterns_typed declared levels) t ty (counted s) u s' h;
  typed = λ t ty s u s' h. node_typed declared (Elaborates declared levels) (patterns_typed declared levels) t ty (counted s) u s' h;
}
