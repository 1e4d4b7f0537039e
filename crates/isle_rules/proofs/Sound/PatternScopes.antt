-- Patterns stand for ones that bind variables in order.
use Rattle.std.proofs.Common.{◌≡◌, ℕ, zero, suc, inl, inr, Bool, true, false, List, [], ◌∷◌, length, map, Option, Some, None, refl, ap}
use Rattle.std.specs.Str.{bytes_eq}
use Rattle.std.proofs.lemmas.List.{length-append}
use Rattle.std.proofs.lemmas.Option.{none-some, same_Some}
use Rattle.isle_ast.specs.Trees.PatternTree.{PatternTree, PatternTrees, pattern_var, pattern_bind, pattern_bool, pattern_int, pattern_prim}
use Rattle.isle_ast.specs.Trees.PatternTree.{pattern_term, pattern_wildcard, pattern_and, pattern_macro_arg, no_patterns, more_patterns}
use Rattle.isle_rules.specs.TypedRules.{TypedPattern, TypedPatterns}
use Rattle.isle_rules.specs.Signatures.{Signature, Declared, put_in_for}
use Rattle.isle_rules.specs.Elaboration.{State, counted, bound, Visible, visible_in, each_at, PatternJudgement, EachPattern, TakesApart}
use Rattle.isle_rules.specs.Elaboration.{PatternNode, Elaborates}
use Rattle.isle_rules.specs.SoundRules.KeptScopes.{Scope, with_next, IsUsable, PatternBinds, PatternsBind}

-- the variables of names
abbrev pub variables_of : List Visible → List ℕ
variables_of scope = map (λ (visible : Visible). visible.var) scope

-- the scope of a state
abbrev pub scope_of : State → Scope
scope_of s = record { usable = variables_of s.scope; count = length s.variables }

-- a name more is the next variable
pub next_scope : (s : State) (name : List ℕ) (ty : ℕ) → scope_of (bound s name ty) ≡ with_next (scope_of s)
next_scope s name ty =
    ap (λ n. record { usable = length s.variables ∷ variables_of s.scope; count = n })
    (length-append s.variables (record { name = name; type = ty } ∷ []))

-- the variable of a name can be used
pub seen_usable : (scope : List Visible) (name : List ℕ) (seen : Visible) → visible_in scope name ≡ Some seen
    → IsUsable (variables_of scope) seen.var
seen_usable [] name seen e = absurd (none-some seen e)
seen_usable (first ∷ others) name seen e = by_test (bytes_eq first.name name) refl (seen_usable others name seen)
  where
    by_test : (b : Bool) → bytes_eq first.name name ≡ b → (visible_in others name ≡ Some seen → IsUsable (variables_of others) seen.var)
        → IsUsable (variables_of (first ∷ others)) seen.var
    by_test true t further = inl (ap (λ (z : Visible). z.var) (same_Some _ _ (rw t at e)))
    by_test false t further = inr (further (rw t at e))

-- a judgement makes patterns that bind variables in order
abbrev pub BindsInOrder : PatternJudgement → Type 0
BindsInOrder R = (t : PatternTree) (ty : ℕ) (s : State) (u : TypedPattern) (s' : State) → R t ty s u s'
    → PatternBinds u (scope_of s) (scope_of s')

module _ (declared : Declared) (R : PatternJudgement) (c : BindsInOrder R) where
  pub each_binds : (ts : PatternTrees) (tys : List ℕ) (s : State) (us : TypedPatterns) (s' : State) → EachPattern R ts tys s us s'
      → PatternsBind us (scope_of s) (scope_of s')
  each_binds no_patterns [] s us s' h = rw (h.0, h.1) refl
  each_binds no_patterns (ty ∷ tys) s us s' h = absurd h
  each_binds (more_patterns t ts) [] s us s' h = absurd h
  each_binds (more_patterns t ts) (ty ∷ tys) s us s' h =
      let first = c t ty s h.0 h.1 h.3 in
      let others = each_binds ts tys h.1 h.2 s' h.4 in
      rw h.5 (scope_of h.1, first, others)

  taken_binds : (term : Signature) (number : ℕ) (template : Option PatternTree) (args : PatternTrees) (ty : ℕ) (s : State) (u : TypedPattern)
      (s' : State) → TakesApart R term number template args ty s u s' → PatternBinds u (scope_of s) (scope_of s')
  taken_binds term number None args ty s u s' h = let each = each_binds args term.args s h.0 s' h.1 in rw h.2 each
  taken_binds term number (Some template) args ty s u s' h = c h.0 ty s u s' h.2

  node_binds : (t : PatternTree) (ty : ℕ) (s : State) (u : TypedPattern) (s' : State) → PatternNode declared R t ty s u s'
      → PatternBinds u (scope_of s) (scope_of s')
  node_binds (pattern_var name pos) ty s u s' (inl h) = rw (h.1, h.2) (scope_of s, refl, refl, next_scope s name.0 ty)
  node_binds (pattern_var name pos) ty s u s' (inr h) = rw (h.3, h.4) (seen_usable s.scope name.0 h.0 h.1, refl)
  node_binds (pattern_bind name below pos) ty s u s' h =
      let inside = c below ty s h.0 h.1 h.2 in rw (h.4, h.5) (scope_of h.1, inside, refl, next_scope h.1 name.0 ty)
  node_binds (pattern_bool val pos) ty s u s' h = rw (h.1, h.2) refl
  node_binds (pattern_int val big pos) ty s u s' h = rw (h.1, h.2) refl
  node_binds (pattern_prim name pos) ty s u s' h = rw (h.1, h.2) refl
  node_binds (pattern_term name args pos) ty s u s' h = elim h.4 [
    | inl k ↦ taken_binds h.1 h.0 (put_in_for declared h.1) args ty s u s' k.taken
    | inr k ↦ c _ ty s u s' k.repaired
  ]
  node_binds (pattern_wildcard pos) ty s u s' h = rw (h.0, h.1) refl
  node_binds (pattern_and below pos) ty s u s' h = let each = each_binds below (each_at ty below) s h.0 s' h.1 in rw h.2 each
  node_binds (pattern_macro_arg place pos) ty s u s' h = absurd h

-- what a pattern stands for binds variables in order, whatever the levels
pub patterns_bind : (declared : Declared) (levels : ℕ) → BindsInOrder (Elaborates declared levels)
patterns_bind declared zero t ty s u s' h = absurd h
patterns_bind declared (suc levels) t ty s u s' h =
    node_binds declared (Elaborates declared levels) (patterns_bind declared levels) t ty (counted s) u s' h
