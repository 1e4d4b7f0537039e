-- Reading a pattern up to an `@`, and what follows from it for all of the pattern.
use Rattle.std.proofs.Common.{◌≡◌, ℕ, zero, suc, ◌<◌, List, [], ◌∷◌, ◌++◌, length, Bool, true, false, cond, Some, None, refl, sym, ap, subst, ◌∙◌}
use Rattle.std.proofs.Common.{arith}
use Rattle.std.specs.Prelude.{codes}
use Rattle.isle_syntax.specs.declared.kind.Kind.{Kind}
use Rattle.isle_syntax.specs.declared.kind.Kind.TheVariants.{End, Open, Close, At, Int, True, False, Const, Wildcard, Name, Other}
use Rattle.isle_ast.specs.declared.pos.Pos.{Pos}
use Rattle.isle_ast.specs.declared.ast.Ident.{Ident}
use Rattle.isle_syntax.specs.Tokens.PlacedTokens.{Placed, opening, closing, at_sign, symbol, int}
use Rattle.isle_syntax.specs.Tokens.Names.{is_word}
use Rattle.isle_syntax.specs.Inside.Reading.KindOf.{kind_at}
use Rattle.isle_syntax.specs.Inside.Reading.Readers.{Read, done, fault, deep, read_map, seq, rest_of, opened, shut, after_at, any_symbol, symbol_of}
use Rattle.isle_ast.specs.Trees.PatternTree.{PatternTree, pattern_var, pattern_bind, pattern_term, pattern_and}
use Rattle.isle_syntax.specs.Inside.Reading.Parsing.{at_fault, stop_of}
use Rattle.isle_ast.specs.Trees.Chain.{bound}
use Rattle.isle_syntax.specs.Inside.Reading.TreeReading.{is_head, listed, pattern_trees, pattern_list, pattern}
use Rattle.isle_syntax.specs.Inside.Reading.KindReading.{named_by, pattern_on, unbound_on, unbound}
use Rattle.isle_syntax.proofs.Reading.ReadSteps.{fuse}
use Rattle.isle_syntax.proofs.Reading.Leaves.{pattern_none, symbol_shorter}
use Rattle.isle_syntax.proofs.Reading.PatternKinds.{pattern_at_kind, pattern_named, named_alone, named_bound}
use Rattle.isle_ast.proofs.Trees.Chains.{bound-append}

pub unbound_at_kind : (d : ℕ) (ts : List Placed) (k : Kind) → k ≡ kind_at ts → unbound d ts ≡ unbound_on d k ts
unbound_at_kind d ts k e = ap (λ k. unbound_on d k ts) (sym e)

-- at another kind than a name
pub unbound_else : (d : ℕ) (ts : List Placed) (k : Kind) → k ≡ kind_at ts → unbound_on d k ts ≡ pattern d ts → unbound d ts ≡ pattern_on d k ts
unbound_else d ts k e same = unbound_at_kind d ts k e ∙ same ∙ pattern_at_kind d ts k e

pub unbound_nothing : (d : ℕ) (ts : List Placed) → ts ≡ [] → at_fault [] ≡ stop_of (unbound d ts)
unbound_nothing d ts e = ap stop_of (sym (pattern_none d)) ∙ ap (λ ts. stop_of (unbound d ts)) (sym e)

-- ---- a variable was read only where a name stands

abbrev IsOther : PatternTree → Type 0
IsOther (pattern_var x p) = ⊥
IsOther _ = Unit {0}

other_of : (b : Bool) (s t : PatternTree) → IsOther s → IsOther t → IsOther (cond b s t)
other_of true s t a b = a
other_of false s t a b = b

module _ (x : Ident) (p : Pos) (r : List Placed) where
  never_var : {A : Type 0} (f : A → PatternTree) → ((a : A) → IsOther (f a)) → (y : Read A) → read_map f y ≡ done (pattern_var x p) r → ⊥
  never_var f other (done a q) e = let h : f a ≡ pattern_var x p = cc in subst IsOther h (other a)
  never_var f other (fault q) e = cc
  never_var f other (deep q) e = cc

  shut_never : (ts : List Placed) → shut ts ≡ done (pattern_var x p) r → ⊥
  shut_never [] e = cc
  shut_never (opening q ∷ ts) e = cc
  shut_never (closing q ∷ ts) e = cc
  shut_never (at_sign q ∷ ts) e = cc
  shut_never (symbol q s ∷ ts) e = cc
  shut_never (int q z ∷ ts) e = cc

  list_never_var : (d : ℕ) (ts : List Placed) → pattern_list d ts ≡ done (pattern_var x p) r → ⊥
  unfolding pattern_list
  list_never_var zero ts e = shut_never ts e
  list_never_var (suc d) ts e =
      never_var listed (λ l. other_of (is_word (codes "and") l.1.0.0) (pattern_and (pattern_trees l.1.1) l.0)
      (pattern_term l.1.0 (pattern_trees l.1.1) l.0) tt tt) (seq opened (seq (symbol_of is_head) (rest_of (pattern d))) ts) e

  -- a name is next, and is the variable
  pub record ReadsVar (ts : List Placed) : Type 0 where
    pub name : Name ≡ kind_at ts
    pub reads : any_symbol ts ≡ done x r
    pub place : x.1 ≡ p

  var_of : (y : Read Ident) → read_map (λ x. pattern_var x x.1) y ≡ done (pattern_var x p) r → (y ≡ done x r) × (x.1 ≡ p)
  var_of (done a q) e =
      let same : a ≡ x = cc in
      let left : q ≡ r = cc in
      let place : a.1 ≡ p = cc in ((λ i. done (same i) (left i)), ap (λ a. a.1) (sym same) ∙ place)
  var_of (fault q) e = cc
  var_of (deep q) e = cc

  pub unbound_var : (d : ℕ) (ts : List Placed) → unbound d ts ≡ done (pattern_var x p) r → ReadsVar ts
  unbound_var d ts e = by_kind (kind_at ts) refl e
    where
      on_kind : (k : Kind) → k ≡ kind_at ts → pattern d ts ≡ done (pattern_var x p) r → pattern_on d k ts ≡ done (pattern_var x p) r
      on_kind k same h = sym (pattern_at_kind d ts k same) ∙ h

      by_kind : (k : Kind) → k ≡ kind_at ts → unbound_on d k ts ≡ done (pattern_var x p) r → ReadsVar ts
      by_kind End k h = let g = on_kind End k h in absurd (cc)
      by_kind Open k h = absurd (list_never_var d ts (on_kind Open k h))
      by_kind Close k h = let g = on_kind Close k h in absurd (cc)
      by_kind At k h = let g = on_kind At k h in absurd (cc)
      by_kind Int k h = absurd (never_var _ (λ a. tt) _ (on_kind Int k h))
      by_kind True k h = absurd (never_var _ (λ a. tt) _ (on_kind True k h))
      by_kind False k h = absurd (never_var _ (λ a. tt) _ (on_kind False k h))
      by_kind Const k h = absurd (never_var _ (λ a. tt) _ (on_kind Const k h))
      by_kind Wildcard k h = absurd (never_var _ (λ a. tt) _ (on_kind Wildcard k h))
      by_kind Name k h = let v = var_of (any_symbol ts) h in record { name = k; reads = v.0; place = v.1 }
      by_kind Other k h = let g = on_kind Other k h in absurd (cc)

-- ---- the whole pattern

at_shorter : (ts q : List Placed) → after_at ts ≡ Some q → length q < length ts
at_shorter [] q e = cc
at_shorter (opening p ∷ ts) q e = cc
at_shorter (closing p ∷ ts) q e = cc
at_shorter (at_sign p ∷ ts) q e = let same : ts ≡ q = cc in omega (arith, ap length same)
at_shorter (symbol p s ∷ ts) q e = cc
at_shorter (int p z ∷ ts) q e = cc

module _ (d : ℕ) (ts r : List Placed) (x : Ident) (p : Pos) (e : unbound d ts ≡ done (pattern_var x p) r) where
  named_first : pattern d ts ≡ named_by (pattern d) x r
  named_first = let v = unbound_var x p r d ts e in pattern_named d ts r x v.name v.reads

  -- a variable with no `@` behind it
  pub unbound_alone : after_at r ≡ None → pattern d ts ≡ done (pattern_var x p) r
  unbound_alone none = named_first ∙ named_alone (pattern d) x r none ∙ ap (λ p. done (pattern_var x p) r) ((unbound_var x p r d ts e).place)

  module _ (q : List Placed) (at : after_at r ≡ Some q) where
    -- a name with an `@` behind it goes to the names
    pub unbound_named : (names more : List (Ident × Pos)) → more ≡ names ++ (x, p) ∷ []
        → read_map (bound names) (pattern d ts) ≡ read_map (bound more) (pattern d q)
    unbound_named names more added =
        ap (read_map (bound names)) (named_first ∙ named_bound (pattern d) x r q at)
        ∙ fuse (bound names) (λ sub. pattern_bind x sub x.1) (pattern d q)
        ∙ (λ i. read_map (λ sub. bound names (pattern_bind x sub ((unbound_var x p r d ts e).place i))) (pattern d q))
        ∙ (λ i. read_map (λ sub. sym (bound-append names ((x, p) ∷ []) sub) i) (pattern d q))
        ∙ ap (λ xs. read_map (bound xs) (pattern d q)) (sym added)

    pub unbound_shorter : length q < length ts
    unbound_shorter = let v = unbound_var x p r d ts e in omega (arith, symbol_shorter ts r x v.reads, at_shorter r q at)
