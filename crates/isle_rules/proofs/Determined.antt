-- A pattern stands for one thing at most, whatever the levels.
use Rattle.std.proofs.Common.{◌≡◌, ◌⊎◌, ℕ, zero, suc, inl, inr, List, [], ◌∷◌, Option, None, Some, sym, ap, subst, ◌∙◌, length, slice_get}
use Rattle.std.proofs.lemmas.Option.{none-some, same_Some}
use Rattle.isle_ast.specs.Trees.PatternTree.{PatternTree, PatternTrees, pattern_var, pattern_bind, pattern_bool, pattern_int, pattern_prim}
use Rattle.isle_ast.specs.Trees.PatternTree.{pattern_term, pattern_wildcard, pattern_and, pattern_macro_arg, no_patterns, more_patterns}
use Rattle.isle_ast.specs.Trees.PatternTree.{pattern_pos}
use Rattle.isle_rules.specs.TypedRules.{TypedPattern, TypedPatterns}
use Rattle.isle_rules.specs.Signatures.{Signature, Declared, put_in_for, Converts}
use Rattle.isle_rules.specs.Elaboration.{State, counted, bound, Visible, each_at, PatternJudgement, EachPattern, IsNamed, TakesApart, Extracts}
use Rattle.isle_rules.specs.Elaboration.{ConvertsPattern, PatternNode, Elaborates}

-- what two judgements say of one pattern is the same
pub record Agree (R S : PatternJudgement) : Type 0 where
  pub same : (t : PatternTree) (ty : ℕ) (s : State) (u v : TypedPattern) (a b : State) → R t ty s u a → S t ty s v b → (u ≡ v) × (a ≡ b)

module _ (R S : PatternJudgement) (agree : Agree R S) where
  pub each_same : (ts : PatternTrees) (tys : List ℕ) (s : State) (us vs : TypedPatterns) (a b : State)
      → EachPattern R ts tys s us a → EachPattern S ts tys s vs b → (us ≡ vs) × (a ≡ b)
  each_same no_patterns [] s us vs a b h k = (h.0 ∙ sym k.0, h.1 ∙ sym k.1)
  each_same no_patterns (ty ∷ tys) s us vs a b h k = absurd h
  each_same (more_patterns t ts) [] s us vs a b h k = absurd h
  each_same (more_patterns t ts) (ty ∷ tys) s us vs a b h k =
      let first = agree.same t ty s h.0 k.0 h.1 k.1 h.3 k.3 in
      let rest = subst (λ z. EachPattern S ts tys z k.2 b) (sym first.1) k.4 in
      let others = each_same ts tys h.1 h.2 k.2 a b h.4 rest in
      (cc (h.5, k.5, first.0, others.0), others.1)

  named_same : (name : List ℕ) (ty : ℕ) (s : State) (u v : TypedPattern) (a b : State) → IsNamed name ty s u a → IsNamed name ty s v b → (u ≡ v)
      × (a ≡ b)
  named_same name ty s u v a b (inl h) (inl k) = (h.1 ∙ sym k.1, h.2 ∙ sym k.2)
  named_same name ty s u v a b (inl h) (inr k) = absurd (none-some _ (sym h.0 ∙ k.1))
  named_same name ty s u v a b (inr h) (inl k) = absurd (none-some _ (sym k.0 ∙ h.1))
  named_same name ty s u v a b (inr h) (inr k) =
      let seen : h.0 ≡ k.0 = same_Some _ _ (sym h.1 ∙ k.1) in
      (cc (h.3, k.3, ap (λ (z : Visible). z.var) seen), h.4 ∙ sym k.4)

  taken_same : (term : Signature) (number : ℕ) (template : Option PatternTree) (args : PatternTrees) (ty : ℕ) (s : State) (u v : TypedPattern)
      (a b : State)
      → TakesApart R term number template args ty s u a → TakesApart S term number template args ty s v b → (u ≡ v) × (a ≡ b)
  taken_same term number None args ty s u v a b h k =
      let each = each_same args term.args s h.0 k.0 a b h.1 k.1 in (cc (h.2, k.2, each.0), each.1)
  taken_same term number (Some template) args ty s u v a b h k =
      let body : h.0 ≡ k.0 = same_Some _ _ (sym h.1 ∙ k.1) in
      agree.same k.0 ty s u v a b (subst (λ z. R z ty s u a) body h.2) k.2

  -- the converter of a pair is one
  pub converter_same : (declared : Declared) (inner outer : ℕ) (name other : List ℕ) (term last : Signature)
      → Converts declared inner outer name term → Converts declared inner outer other last → name ≡ other
  converter_same declared inner outer name other term last h k = same_Some _ _ (sym h.converter ∙ k.converter)

  extracted_same : (declared : Declared) (term : Signature) (number : ℕ) (args : PatternTrees) (ty : ℕ) (s : State) (u v : TypedPattern) (a b : State)
      → Extracts declared R term number args ty s u a → Extracts declared S term number args ty s v b → (u ≡ v) × (a ≡ b)
  extracted_same declared term number args ty s u v a b h k = taken_same term number (put_in_for declared term) args ty s u v a b h.taken k.taken

  converted_same : (declared : Declared) (term : Signature) (tree : PatternTree) (ty : ℕ) (s : State) (u v : TypedPattern) (a b : State)
      → ConvertsPattern declared R term tree ty s u a → ConvertsPattern declared S term tree ty s v b → (u ≡ v) × (a ≡ b)
  converted_same declared term tree ty s u v a b h k =
      let name : h.name ≡ k.name = converter_same declared term.ret ty h.name k.name h.converter k.converter h.fits k.fits in
      agree.same _ ty s u v a b (subst
      (λ z. R (pattern_term (z, pattern_pos tree) (more_patterns tree no_patterns) (pattern_pos tree)) ty s u a) name h.repaired) k.repaired

  used_same : (declared : Declared) (term : Signature) (number : ℕ) (args : PatternTrees) (tree : PatternTree) (ty : ℕ) (s : State)
      (u v : TypedPattern) (a b : State)
      → Extracts declared R term number args ty s u a ⊎ ConvertsPattern declared R term tree ty s u a
      → Extracts declared S term number args ty s v b ⊎ ConvertsPattern declared S term tree ty s v b → (u ≡ v) × (a ≡ b)
  used_same declared term number args tree ty s u v a b (inl h) (inl k) = extracted_same declared term number args ty s u v a b h k
  used_same declared term number args tree ty s u v a b (inl h) (inr k) = absurd (k.other h.type)
  used_same declared term number args tree ty s u v a b (inr h) (inl k) = absurd (h.other k.type)
  used_same declared term number args tree ty s u v a b (inr h) (inr k) = converted_same declared term tree ty s u v a b h k

  pub node_same : (declared : Declared) (t : PatternTree) (ty : ℕ) (s : State) (u v : TypedPattern) (a b : State)
      → PatternNode declared R t ty s u a → PatternNode declared S t ty s v b → (u ≡ v) × (a ≡ b)
  node_same declared (pattern_var name pos) ty s u v a b h k = named_same name.0 ty s u v a b h k
  node_same declared (pattern_bind name below pos) ty s u v a b h k =
      let inside = agree.same below ty s h.0 k.0 h.1 k.1 h.2 k.2 in
      (cc (h.4, k.4, inside.0, ap (λ (z : State). length z.variables) inside.1), cc (h.5, k.5, ap (λ z. bound z name.0 ty) inside.1))
  node_same declared (pattern_bool val pos) ty s u v a b h k = (h.1 ∙ sym k.1, h.2 ∙ sym k.2)
  node_same declared (pattern_int val big pos) ty s u v a b h k = (h.1 ∙ sym k.1, h.2 ∙ sym k.2)
  node_same declared (pattern_prim name pos) ty s u v a b h k = (h.1 ∙ sym k.1, h.2 ∙ sym k.2)
  node_same declared (pattern_term sym_name args pos) ty s u v a b h k =
      let number : h.0 ≡ k.0 = same_Some _ _ (sym h.2 ∙ k.2) in
      let term : h.1 ≡ k.1 = same_Some _ _ (sym h.3 ∙ ap (slice_get declared.terms) number ∙ k.3) in
      used_same declared k.1 k.0 args (pattern_term sym_name args pos) ty s u v a b
      (subst (λ z. Extracts declared R z k.0 args ty s u a ⊎ ConvertsPattern declared R z (pattern_term sym_name args pos) ty s u a) term
      (subst (λ z. Extracts declared R h.1 z args ty s u a
      ⊎ ConvertsPattern declared R h.1 (pattern_term sym_name args pos) ty s u a) number h.4)) k.4
  node_same declared (pattern_wildcard pos) ty s u v a b h k = (h.0 ∙ sym k.0, h.1 ∙ sym k.1)
  node_same declared (pattern_and below pos) ty s u v a b h k =
      let each = each_same below (each_at ty below) s h.0 k.0 a b h.1 k.1 in (cc (h.2, k.2, each.0), each.1)
  node_same declared (pattern_macro_arg place pos) ty s u v a b h k = absurd h

-- whatever the levels, a pattern stands for one thing at most
pub patterns_agree : (declared : Declared) (m n : ℕ) → Agree (Elaborates declared m) (Elaborates declared n)
patterns_agree declared zero n = record { same = λ t ty s u v a b h k. absurd h }
patterns_agree declared (suc m) zero = record { same = λ t ty s u v a b h k. absurd k }
patterns_agree declared (suc m) (suc n) = record {
  same = λ t ty s u v a b h k. node_same (Elaborates declared m) (Elaborates declared n) (patterns_agree declared m n) declared t ty
      (counted s) u v a b h k;
}
