-- Tokens spell one value.
use Rattle.std.proofs.Common.{◌≡◌, ◌++◌, List, [], ◌∷◌, refl, sym, ◌∙◌, ap, subst, append_assoc}
use Rattle.isle_syntax.specs.declared.lexer.Token.{Token}
use Rattle.isle_syntax.specs.declared.lexer.Token.TheVariants.{RParen, Symbol}
use Rattle.isle_rules.specs.Values.{ValueTree, ValueTrees, bool_tree, int_tree, big_tree, const_tree, opaque_tree, data_tree, no_trees, more_trees}
use Rattle.isle_values.specs.Values.Tokens.{tokens_of, tokens_all, IsSpellable, AreSpellable}
use Rattle.isle_values.proofs.GroundValues.Reading.{opened, no_close, leaf_first}

-- the same the other way round
leaf_spelling : (v w : ValueTree) (token : Token) (r s : List Token) → IsSpellable v → IsSpellable w → tokens_of v ≡ token ∷ []
    → tokens_of v ++ r ≡ tokens_of w ++ s → (v ≡ w) × (r ≡ s)
leaf_spelling v w token r s p q d e =
    let (one, rest) = leaf_first v w token s r p q d (sym e ∙ ap (λ l. l ++ r) d) in (sym one, sym rest)

mutual
  -- of two values at the front of the same tokens each is the other
  pub one_spelling : (v w : ValueTree) (r s : List Token) → IsSpellable v → IsSpellable w → tokens_of v ++ r ≡ tokens_of w ++ s → (v ≡ w) × (r ≡ s)
  one_spelling (bool_tree b) w r s p q e = leaf_spelling (bool_tree b) w _ r s p q refl e
  one_spelling (int_tree n) w r s p q e = leaf_spelling (int_tree n) w _ r s p q refl e
  one_spelling (big_tree n) w r s p q e = leaf_spelling (big_tree n) w _ r s p q refl e
  one_spelling (const_tree name) w r s p q e = leaf_spelling (const_tree name) w _ r s p q refl e
  one_spelling (opaque_tree n) w r s p q e = leaf_spelling (opaque_tree n) w _ r s p q refl e
  one_spelling (data_tree name vs) w r s p q e =
      let is_data = opened w s (Symbol name ∷ ((tokens_all vs ++ RParen ∷ []) ++ r)) (sym e) in
      let same_name : name ≡ is_data.name = let l = is_data.left in cc in
      let rest : (tokens_all vs ++ RParen ∷ []) ++ r ≡ tokens_all is_data.fields ++ (RParen ∷ s) = let l = is_data.left in cc in
      let (fields, more) = all_spelling vs is_data.fields r s p.1 (subst IsSpellable is_data.is q).1
      (sym (append_assoc (tokens_all vs) (RParen ∷ []) r) ∙ rest) in
      ((λ i. data_tree (same_name i) (fields i)) ∙ sym is_data.is, more)

  -- so of values before a closing parenthesis
  pub all_spelling : (vs ws : ValueTrees) (r s : List Token) → AreSpellable vs → AreSpellable ws
      → tokens_all vs ++ (RParen ∷ r) ≡ tokens_all ws ++ (RParen ∷ s) → (vs ≡ ws) × (r ≡ s)
  all_spelling no_trees no_trees r s p q e = (refl, let same : r ≡ s = cc in same)
  all_spelling no_trees (more_trees w ws) r s p q e =
      absurd (no_close w (tokens_all ws ++ (RParen ∷ s)) r (sym (append_assoc (tokens_of w) (tokens_all ws) (RParen ∷ s)) ∙ sym e))
  all_spelling (more_trees v vs) no_trees r s p q e =
      absurd (no_close v (tokens_all vs ++ (RParen ∷ r)) s (sym (append_assoc (tokens_of v) (tokens_all vs) (RParen ∷ r)) ∙ e))
  all_spelling (more_trees v vs) (more_trees w ws) r s p q e =
      let split = sym (append_assoc (tokens_of v) (tokens_all vs) (RParen ∷ r)) ∙ e ∙ append_assoc (tokens_of w) (tokens_all ws) (RParen ∷ s) in
      let (first, rest) = one_spelling v w (tokens_all vs ++ (RParen ∷ r)) (tokens_all ws ++ (RParen ∷ s)) p.0 q.0 split in
      let (others, more) = all_spelling vs ws r s p.1 q.1 rest in
      ((λ i. more_trees (first i) (others i)), more)
