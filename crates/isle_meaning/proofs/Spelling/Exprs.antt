-- Positions decide nothing of what an expression stands for.
use Rattle.std.proofs.Common.{◌≡◌, ◌⊎◌, inl, inr, ℕ, zero, suc, List, [], ◌∷◌, true, Option, Some, sym, ◌∙◌, ap, subst}
use Rattle.isle_ast.specs.Trees.ExprTree.{ExprTree, ExprTrees, LetTrees, expr_term, expr_var, expr_bool, expr_int, expr_prim, expr_let}
use Rattle.isle_ast.specs.Trees.ExprTree.{no_exprs, more_exprs, no_lets, more_lets, expr_pos}
use Rattle.isle_ast.specs.Trees.WithoutPos.{expr_tree_without_pos, expr_trees_without_pos, let_trees_without_pos}
use Rattle.isle_types.proofs.Zipped.{mapped_at}
use Rattle.isle_rules.specs.TypedRules.{TypedExpr, TypedExprs, TypedBindings}
use Rattle.isle_rules.specs.Signatures.{Flags, Signature, Declared, has_constructor_form}
use Rattle.isle_rules.specs.Elaboration.{State, counted, bound, may_call, ExprJudgement, EachExpr, Binds, Calls, ConvertsExpr, ExprNode, Builds}
use Rattle.isle_meaning.proofs.Spelling.Bare.{bare, bare_types, bare_term, type_named_bare, term_named_bare, there_bare, has_constructor_bare}
use Rattle.isle_meaning.proofs.Spelling.Bare.{flags_bare}
use Rattle.isle_meaning.proofs.Spelling.Patterns.{literal_there, literal_back, converts_there, converts_back}

-- what a converter of an expression is
usable_back : (own term : Signature) → bare_term own ≡ term → has_constructor_form term.form ≡ true → has_constructor_form own.form ≡ true
usable_back own term same h = sym (has_constructor_bare own.form) ∙ ap (λ (t : Signature). has_constructor_form t.form) same ∙ h

-- one node, over what goes there
module _ (declared : Declared) (caller : Flags) (R S : ExprJudgement)
    (step : (t : ExprTree) (want : Option ℕ) (s : State) (u : TypedExpr) (s' : State) → R t want s u s' → S (expr_tree_without_pos t) want s u s')
  where
    exprs_there : (ts : ExprTrees) (tys : List ℕ) (s : State) (us : TypedExprs) (s' : State) → EachExpr R ts tys s us s'
        → EachExpr S (expr_trees_without_pos ts) tys s us s'
    exprs_there no_exprs [] s us s' h = h
    exprs_there no_exprs (ty ∷ tys) s us s' h = absurd h
    exprs_there (more_exprs t ts) [] s us s' h = absurd h
    exprs_there (more_exprs t ts) (ty ∷ tys) s us s' h =
        (h.0, h.1, h.2, step t (Some ty) s (h.0) (h.1) (h.3), exprs_there ts tys (h.1) (h.2) s' (h.4), h.5)

    binds_there : (ts : LetTrees) (s : State) (bs : TypedBindings) (s' : State) → Binds declared.types R ts s bs s'
        → Binds (bare_types declared.types) S (let_trees_without_pos ts) s bs s'
    binds_there no_lets s bs s' h = h
    binds_there (more_lets var of_type val _ others) s bs s' h = (
      h.0,
      h.1,
      h.2,
      h.3,
      type_named_bare declared.types of_type.0 ∙ h.4,
      step val (Some (h.0)) s (h.1) (h.2) (h.5),
      binds_there others (bound (h.2) var.0 (h.0)) (h.3) s' (h.6),
      h.7,
    )

    calls_there : (term : Signature) (number : ℕ) (args : ExprTrees) (want : Option ℕ) (s : State) (u : TypedExpr) (s' : State)
        → Calls caller R term number args want s u s' → Calls caller S (bare_term term) number (expr_trees_without_pos args) want s u s'
    calls_there term number args want s u s' h = record {
      values = h.values;
      type = h.type;
      usable = has_constructor_bare term.form ∙ h.usable;
      allowed = ap (may_call caller) (flags_bare term.form) ∙ h.allowed;
      each = exprs_there args term.args s h.values s' h.each;
      made = h.made;
    }

    repaired_there : (tree : ExprTree) (inner : ℕ) (want : Option ℕ) (s : State) (u : TypedExpr) (s' : State)
        → ConvertsExpr declared R tree inner want s u s' → ConvertsExpr (bare declared) S (expr_tree_without_pos tree) inner want s u s'
    repaired_there tree inner want s u s' c = record {
      ty = c.ty;
      name = c.name;
      converter = bare_term c.converter;
      wanted = c.wanted;
      other = c.other;
      fits = converts_there declared inner c.ty c.name c.converter c.fits;
      usable = has_constructor_bare c.converter.form ∙ c.usable;
      repaired = moved tree (c.name) (step _ want s u s' c.repaired);
    }
      where
        moved : (t : ExprTree) (name : List ℕ)
            → S (expr_tree_without_pos (expr_term (name, expr_pos t) (more_exprs t no_exprs) (expr_pos t))) want s u s'
            → S (expr_term (name, expr_pos (expr_tree_without_pos t)) (more_exprs (expr_tree_without_pos t) no_exprs)
            (expr_pos (expr_tree_without_pos t))) want s u s'
        moved (expr_term f args at) name h = h
        moved (expr_var x at) name h = h
        moved (expr_bool val at) name h = h
        moved (expr_int val big at) name h = h
        moved (expr_prim x at) name h = h
        moved (expr_let defs body at) name h = h

    node_there : (t : ExprTree) (want : Option ℕ) (s : State) (u : TypedExpr) (s' : State) → ExprNode declared caller R t want s u s'
        → ExprNode (bare declared) caller S (expr_tree_without_pos t) want s u s'
    node_there (expr_int val big _) want s u s' h = (h.0, h.1, literal_there declared.types (h.0) val big (h.2), h.3, h.4)
    node_there (expr_bool val _) want s u s' h = h
    node_there (expr_prim name _) want s u s' h = h
    node_there (expr_var name at) want s u s' h = (
      h.0,
      h.1,
      elim (h.2) [ inl e ↦ inl e | inr c ↦ inr (repaired_there (expr_var name at) (h.0).type want s u s' c) ],
    )
    node_there (expr_term f args at) want s u s' h = (
      h.0,
      bare_term (h.1),
      term_named_bare declared f.0 ∙ h.2,
      there_bare bare_term declared.terms (h.0) (h.1) (h.3),
      elim (h.4) [
        | inl e ↦ inl (calls_there (h.1) (h.0) args want s u s' e)
        | inr c ↦ inr (repaired_there (expr_term f args at) (h.1).ret want s u s' c)
      ],
    )
    node_there (expr_let defs body _) want s u s' h =
        (h.0, h.1, h.2, h.3, binds_there defs s (h.0) (h.1) (h.4), step body want (h.1) (h.2) (h.3) (h.5), h.6, h.7)

-- and back
module _ (declared : Declared) (caller : Flags) (R S : ExprJudgement)
    (step : (t : ExprTree) (want : Option ℕ) (s : State) (u : TypedExpr) (s' : State) → S (expr_tree_without_pos t) want s u s' → R t want s u s')
  where
    exprs_back : (ts : ExprTrees) (tys : List ℕ) (s : State) (us : TypedExprs) (s' : State) → EachExpr S (expr_trees_without_pos ts) tys s us s'
        → EachExpr R ts tys s us s'
    exprs_back no_exprs [] s us s' h = h
    exprs_back no_exprs (ty ∷ tys) s us s' h = absurd h
    exprs_back (more_exprs t ts) [] s us s' h = absurd h
    exprs_back (more_exprs t ts) (ty ∷ tys) s us s' h =
        (h.0, h.1, h.2, step t (Some ty) s (h.0) (h.1) (h.3), exprs_back ts tys (h.1) (h.2) s' (h.4), h.5)

    binds_back : (ts : LetTrees) (s : State) (bs : TypedBindings) (s' : State)
        → Binds (bare_types declared.types) S (let_trees_without_pos ts) s bs s' → Binds declared.types R ts s bs s'
    binds_back no_lets s bs s' h = h
    binds_back (more_lets var of_type val _ others) s bs s' h = (
      h.0,
      h.1,
      h.2,
      h.3,
      sym (type_named_bare declared.types of_type.0) ∙ h.4,
      step val (Some (h.0)) s (h.1) (h.2) (h.5),
      binds_back others (bound (h.2) var.0 (h.0)) (h.3) s' (h.6),
      h.7,
    )

    calls_back : (term : Signature) (number : ℕ) (args : ExprTrees) (want : Option ℕ) (s : State) (u : TypedExpr) (s' : State)
        → Calls caller S (bare_term term) number (expr_trees_without_pos args) want s u s' → Calls caller R term number args want s u s'
    calls_back term number args want s u s' h = record {
      values = h.values;
      type = h.type;
      usable = sym (has_constructor_bare term.form) ∙ h.usable;
      allowed = sym (ap (may_call caller) (flags_bare term.form)) ∙ h.allowed;
      each = exprs_back args term.args s h.values s' h.each;
      made = h.made;
    }

    repaired_back : (tree : ExprTree) (inner : ℕ) (want : Option ℕ) (s : State) (u : TypedExpr) (s' : State)
        → ConvertsExpr (bare declared) S (expr_tree_without_pos tree) inner want s u s' → ConvertsExpr declared R tree inner want s u s'
    repaired_back tree inner want s u s' c =
        let (own, fits, same) = converts_back declared inner c.ty c.name c.converter c.fits in
        record {
          ty = c.ty;
          name = c.name;
          converter = own;
          wanted = c.wanted;
          other = c.other;
          fits = fits;
          usable = usable_back own c.converter same c.usable;
          repaired = step _ want s u s' (moved tree (c.name) c.repaired);
        }
      where
        moved : (t : ExprTree) (name : List ℕ)
            → S (expr_term (name, expr_pos (expr_tree_without_pos t)) (more_exprs (expr_tree_without_pos t) no_exprs)
            (expr_pos (expr_tree_without_pos t))) want s u s'
            → S (expr_tree_without_pos (expr_term (name, expr_pos t) (more_exprs t no_exprs) (expr_pos t))) want s u s'
        moved (expr_term f args at) name h = h
        moved (expr_var x at) name h = h
        moved (expr_bool val at) name h = h
        moved (expr_int val big at) name h = h
        moved (expr_prim x at) name h = h
        moved (expr_let defs body at) name h = h

    -- of the term there
    either_back : (f : _) (args : ExprTrees) (at : _) (number : ℕ) (term : Signature) (want : Option ℕ) (s : State) (u : TypedExpr) (s' : State)
        → (Calls caller S (bare_term term) number (expr_trees_without_pos args) want s u s'
        ⊎ ConvertsExpr (bare declared) S (expr_tree_without_pos (expr_term f args at)) term.ret want s u s')
        → (Calls caller R term number args want s u s' ⊎ ConvertsExpr declared R (expr_term f args at) term.ret want s u s')
    either_back f args at number term want s u s' (inl e) = inl (calls_back term number args want s u s' e)
    either_back f args at number term want s u s' (inr c) = inr (repaired_back (expr_term f args at) term.ret want s u s' c)

    node_back : (t : ExprTree) (want : Option ℕ) (s : State) (u : TypedExpr) (s' : State)
        → ExprNode (bare declared) caller S (expr_tree_without_pos t) want s u s' → ExprNode declared caller R t want s u s'
    node_back (expr_int val big _) want s u s' h = (h.0, h.1, literal_back declared.types (h.0) val big (h.2), h.3, h.4)
    node_back (expr_bool val _) want s u s' h = h
    node_back (expr_prim name _) want s u s' h = h
    node_back (expr_var name at) want s u s' h = (
      h.0,
      h.1,
      elim (h.2) [ inl e ↦ inl e | inr c ↦ inr (repaired_back (expr_var name at) (h.0).type want s u s' c) ],
    )
    node_back (expr_term f args at) want s u s' h =
        let (term, there, same) = mapped_at bare_term declared.terms (h.0) (h.1) (h.3) in (
          h.0,
          term,
          sym (term_named_bare declared f.0) ∙ h.2,
          there,
          either_back f args at (h.0) term want s u s'
              (subst (λ (t : Signature). Calls caller S t (h.0) (expr_trees_without_pos args) want s u s'
              ⊎ ConvertsExpr (bare declared) S (expr_tree_without_pos (expr_term f args at)) t.ret want s u s') (sym same) (h.4)),
        )
    node_back (expr_let defs body _) want s u s' h =
        (h.0, h.1, h.2, h.3, binds_back defs s (h.0) (h.1) (h.4), step body want (h.1) (h.2) (h.3) (h.5), h.6, h.7)

-- an expression stands for the same
pub expr_there : (declared : Declared) (caller : Flags) (levels : ℕ) (t : ExprTree) (want : Option ℕ) (s : State) (u : TypedExpr) (s' : State)
    → Builds declared caller levels t want s u s' → Builds (bare declared) caller levels (expr_tree_without_pos t) want s u s'
expr_there declared caller zero t want s u s' h = absurd h
expr_there declared caller (suc levels) t want s u s' h =
    node_there declared caller (Builds declared caller levels) (Builds (bare declared) caller levels) (expr_there declared caller levels) t want
    (counted s) u s' h

pub expr_back : (declared : Declared) (caller : Flags) (levels : ℕ) (t : ExprTree) (want : Option ℕ) (s : State) (u : TypedExpr) (s' : State)
    → Builds (bare declared) caller levels (expr_tree_without_pos t) want s u s' → Builds declared caller levels t want s u s'
expr_back declared caller zero t want s u s' h = absurd h
expr_back declared caller (suc levels) t want s u s' h =
    node_back declared caller (Builds declared caller levels) (Builds (bare declared) caller levels) (expr_back declared caller levels) t want
    (counted s) u s' h
