-- What is written out reads only what is bound.
use Rattle.std.proofs.Common.{◌≡◌, ◌⊎◌, inl, inr, ℕ, List, [], Bool, true, false, ◌==◌, refl, sym, ◌∙◌, ap, subst}
use Rattle.isle_rules.specs.TypedRules.{TypedExpr, built_var, built_bool, built_int, built_prim, built_term, built_let, TypedExprs}
use Rattle.isle_rules.specs.TypedRules.{no_built, more_built, TypedBindings, no_typed_bindings, more_typed_bindings}
use Rattle.isle_meaning.specs.Facts.{TermShape, variant_shape, struct_shape, declared_shape, TermFacts}
use Rattle.isle_meaning.specs.Words.{Word, var_word, Words, Step, set, flat, flat_all, flat_lets, call, apply, word_of}
use Rattle.isle_meaning.specs.Scopes.{Reads, ReadAll, IsSingle, let_scope, ReadsExpr, ReadExprs, ReadsLets}
use Rattle.isle_meaning.proofs.Matching.Basics.{set_at}

module _ (facts : TermFacts) (S : ℕ → Type 0) where
  set_reads : (S' : ℕ → Type 0) (vars : ℕ → Word) (k : ℕ) (w : Word) → ((j : ℕ) → S' j → Reads facts (vars j) S) → Reads facts w S → (j : ℕ)
      → (j ≡ k) ⊎ S' j → Reads facts (set vars k w j) S
  set_reads S' vars k w h r j i = go (j == k) refl
    where
      old : (j == k) ≡ false → (j ≡ k) ⊎ S' j → Reads facts (vars j) S
      old e (inl p) = let q : set vars k w j ≡ w =
          ap (set vars k w) p ∙ set_at vars k w in
          subst (λ (u : Word). Reads facts u S) (sym q ∙ (let z : set vars k w j ≡ vars j = rw e refl in z)) r
      old e (inr g) = h j g

      go : (b : Bool) → (j == k) ≡ b → Reads facts (set vars k w j) S
      go true e = rw e r
      go false e = rw e (old e i)

  call_reads : (b : Bool) (t : ℕ) (r : Words × List Step) → facts.multi t ≡ false → ReadAll facts (r.0) S → Reads facts ((call b t r).0) S
  call_reads true t r m h = (m, h)
  call_reads false t r m h = (m, h)

  apply_reads : (shape : TermShape) (b : Bool) (ty t : ℕ) (r : Words × List Step) → IsSingle facts shape t → ReadAll facts (r.0) S
      → Reads facts ((apply shape b ty t r).0) S
  apply_reads (variant_shape k) b ty t r m h = h
  apply_reads struct_shape b ty t r m h = h
  apply_reads declared_shape b ty t r m h = call_reads b t r m h

  mutual
    flat_reads : (e : TypedExpr) (S' : ℕ → Type 0) (vars : ℕ → Word) (steps : List Step) → ((j : ℕ) → S' j → Reads facts (vars j) S)
        → ReadsExpr facts e S' → Reads facts ((flat facts vars steps e).0) S
    flat_reads (built_var ty k) S' vars steps h r = h k r
    flat_reads (built_bool ty b) S' vars steps h r = tt
    flat_reads (built_int ty n) S' vars steps h r = tt
    flat_reads (built_prim ty n) S' vars steps h r = tt
    flat_reads (built_term ty t es) S' vars steps h r =
        apply_reads (facts.shape t) (facts.pure t) ty t (flat_all facts vars steps es) (r.0) (flat_all_reads es S' vars steps h (r.1))
    flat_reads (built_let ty bs body) S' vars steps h r =
        flat_reads body (let_scope bs S') ((flat_lets facts vars steps bs).0) ((flat_lets facts vars steps bs).1)
        (flat_lets_read bs S' vars steps h (r.0)) (r.1)

    flat_all_reads : (es : TypedExprs) (S' : ℕ → Type 0) (vars : ℕ → Word) (steps : List Step) → ((j : ℕ) → S' j → Reads facts (vars j) S)
        → ReadExprs facts es S' → ReadAll facts ((flat_all facts vars steps es).0) S
    flat_all_reads no_built S' vars steps h r = tt
    flat_all_reads (more_built e es) S' vars steps h r =
        (flat_reads e S' vars steps h (r.0), flat_all_reads es S' vars ((flat facts vars steps e).1) h (r.1))

    flat_lets_read : (bs : TypedBindings) (S' : ℕ → Type 0) (vars : ℕ → Word) (steps : List Step)
        → ((j : ℕ) → S' j → Reads facts (vars j) S) → ReadsLets facts bs S' → (j : ℕ) → let_scope bs S' j
        → Reads facts ((flat_lets facts vars steps bs).0 j) S
    flat_lets_read no_typed_bindings S' vars steps h r = h
    flat_lets_read (more_typed_bindings k ty e bs) S' vars steps h r =
        flat_lets_read bs (λ j. (j ≡ k)
        ⊎ S' j) (set vars k ((flat facts vars steps e).0)) ((flat facts vars steps e).1)
        (set_reads S' vars k _ h (flat_reads e S' vars steps h (r.0))) (r.1)

  pub word_reads : (e : TypedExpr) → ReadsExpr facts e S → Reads facts (word_of facts e) S
  word_reads e r = flat_reads e S (λ k. var_word k) [] (λ j h. h) r
