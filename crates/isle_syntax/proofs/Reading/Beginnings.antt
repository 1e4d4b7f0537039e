-- Where a phrase that was read begins, and the words and names before it.
use Rattle.std.proofs.Common.{◌≡◌, ℕ, List, [], ◌∷◌, Bool, true, false, refl, sym, ap, ◌∙◌}
use Rattle.std.specs.Prelude.{codes}
use Rattle.isle_ast.specs.declared.ast.Ident.{Ident}
use Rattle.isle_syntax.specs.Tokens.PlacedTokens.{Placed}
use Rattle.isle_syntax.specs.Grammar.Phrases.{first_pos}
use Rattle.isle_syntax.specs.Tokens.RemainingTokens.{RemainingTokens, remaining_pos, next_pos as pos_of_first}
use Rattle.isle_syntax.specs.Inside.Reading.Parsing.{bounds, stop_of, TakesWord}
use Rattle.isle_syntax.specs.Inside.Reading.Readers.{Read, done, fault, deep, Reader, read_map, rest_of, says, optional, optional_on}
use Rattle.isle_ast.specs.Trees.ItemTree.{ItemTree}
use Rattle.isle_syntax.specs.Inside.Reading.TreeReading.{item}
use Rattle.isle_syntax.proofs.Reading.Shorter.{many_at_end}
use Rattle.isle_syntax.specs.Inside.Reading.DefReading.{decl, decl_of, Signature, signature, signature_parts}
use Rattle.isle_syntax.proofs.Reading.ReadSteps.{fuse, map_seq_done}
use Rattle.isle_syntax.proofs.Reading.Loops.{stop_map}

-- where tokens are left, a lexer stands at the first
pub stands_at : (u : RemainingTokens) → (u.left ≡ [] → ⊥) → remaining_pos u ≡ first_pos u.left
stands_at u some = by_list u.left refl
  where
    by_list : (ts : List Placed) → u.left ≡ ts → remaining_pos u ≡ first_pos u.left
    by_list [] e = absurd (some e)
    by_list (t ∷ ts) e = ap (pos_of_first u.source u.end) e ∙ sym (ap first_pos e)

-- items aren't read where nothing is left
pub items_filled : (d : ℕ) (ts r : List Placed) (l : List ItemTree) → rest_of (item d) ts ≡ done l r → ts ≡ [] → ⊥
items_filled d ts r l e none = let h : fault [] ≡ done l r = sym (many_at_end (item d) refl) ∙ ap (rest_of (item d)) (sym none) ∙ e in cc

-- what a mapped reading gives
pub mapped_from : {A B : Type 0} (f : A → B) (x : Read A) (b : B) (r : List Placed) → read_map f x ≡ done b r → (a : A) × (x ≡ done a r) × (f a ≡ b)
mapped_from f (done a q) b r e = let h : q ≡ r = cc in (a, ap (done a) h, cc)
mapped_from f (fault q) b r e = cc
mapped_from f (deep q) b r e = cc

module _ {A : Type 0} (w : List ℕ) (q : Reader A) (old new : RemainingTokens) where
  -- a word that was looked for
  pub took_word : (b : Bool) → TakesWord old new w b → optional w q old.left ≡ read_map (λ x. (b, x)) (q new.left)
  took_word true t = ap (λ b. optional_on w q b old.left) t.0 ∙ map_seq_done (says w) q old.left new.left (λ x. (true, x.1)) tt t.1
  took_word false t = ap (λ b. optional_on w q b old.left) t.0 ∙ ap (λ u. read_map (λ x. (false, x)) (q u.left)) (sym t.1)

pub took_bounds : (w : List ℕ) (old new : RemainingTokens) (b : Bool) → TakesWord old new w b → bounds new ≡ bounds old
took_bounds w old new true t = t.2
took_bounds w old new false t = ap bounds t.1

module _ (d : ℕ) (u0 u1 u2 u3 u4 : RemainingTokens) (b1 b2 b3 b4 : Bool) (t1 : TakesWord u0 u1 (codes "pure") b1)
    (t2 : TakesWord u1 u2 (codes "multi") b2)
    (t3 : TakesWord u2 u3 (codes "partial") b3) (t4 : TakesWord u3 u4 (codes "rec") b4) where
  last : Reader (Bool × Signature)
  last = optional (codes "rec") (signature d)

  third : Reader (Bool × (Bool × Signature))
  third = optional (codes "partial") last

  second : Reader (Bool × (Bool × (Bool × Signature)))
  second = optional (codes "multi") third

  flags : optional (codes "pure") second u0.left ≡ read_map (λ s. (b1, (b2, (b3, (b4, s))))) (signature d u4.left)
  unfolding second third last
  flags =
      took_word (codes "pure") second u0 u1 b1 t1
      ∙ ap (read_map (λ x. (b1, x))) (took_word (codes "multi") third u1 u2 b2 t2
      ∙ ap (read_map (λ x. (b2, x))) (took_word (codes "partial") last u2 u3 b3 t3
      ∙ ap (read_map (λ x. (b3, x))) (took_word (codes "rec") (signature d) u3 u4 b4 t4) ∙ fuse (λ x. (b3, x)) (λ x. (b4, x)) (signature d u4.left))
      ∙ fuse (λ x. (b2, x)) (λ s. (b3, (b4, s))) (signature d u4.left))
      ∙ fuse (λ x. (b1, x)) (λ s. (b2, (b3, (b4, s)))) (signature d u4.left)

  pub decl_flags : decl d u0.left ≡ read_map (λ s. decl_of (first_pos u0.left, (b1, (b2, (b3, (b4, s)))))) (signature d u4.left)
  unfolding second third last
  decl_flags =
      ap (λ x. read_map decl_of (read_map (λ a. (first_pos u0.left, a)) x)) flags
      ∙ ap (read_map decl_of) (fuse (λ a. (first_pos u0.left, a)) (λ s. (b1, (b2, (b3, (b4, s))))) (signature d u4.left))
      ∙ fuse decl_of (λ s. (first_pos u0.left, (b1, (b2, (b3, (b4, s)))))) (signature d u4.left)

  pub decl_stop : stop_of (decl d u0.left) ≡ stop_of (read_map signature_parts (signature d u4.left))
  decl_stop = ap stop_of decl_flags ∙ stop_map _ (signature d u4.left) ∙ sym (stop_map signature_parts (signature d u4.left))

  pub decl_bounds : bounds u4 ≡ bounds u0
  decl_bounds = took_bounds (codes "rec") u3 u4 b4 t4 ∙ took_bounds (codes "partial") u2 u3 b3 t3 ∙ took_bounds (codes "multi") u1 u2 b2 t2
      ∙ took_bounds (codes "pure") u0 u1 b1 t1

  pub decl_filled : (new : List Placed) (p : Ident × List Ident × Ident) → read_map signature_parts (signature d u4.left) ≡ done p new → u0.left ≡ []
      → ⊥
  decl_filled new p e none =
      let some = mapped_from signature_parts (signature d u4.left) p new e in
      let read : decl d u0.left ≡ done (decl_of (first_pos u0.left, (b1, (b2, (b3, (b4, some.0)))))) new = decl_flags ∙ ap (read_map _) some.1 in
      let empty : decl d [] ≡ done (decl_of (first_pos u0.left, (b1, (b2, (b3, (b4, some.0)))))) new = ap (decl d) (sym none) ∙ read in
      cc

  pub decl_reads : (new : List Placed) (p : Ident × List Ident × Ident) → read_map signature_parts (signature d u4.left) ≡ done p new
      → decl d u0.left ≡ done (record {
        term = p.0;
        arg_tys = p.1;
        ret_ty = p.2;
        pure = b1;
        multi = b2;
        partial = b3;
        rec = b4;
        pos = remaining_pos u0;
      }) new
  decl_reads new p e =
      let some = mapped_from signature_parts (signature d u4.left) p new e in
      let here = stands_at u0 (decl_filled new p e) in
      decl_flags ∙ ap (read_map _) some.1
      ∙ ap (λ (q : Ident × List Ident × Ident). done (record {
        term = q.0;
        arg_tys = q.1;
        ret_ty = q.2;
        pure = b1;
        multi = b2;
        partial = b3;
        rec = b4;
        pos = first_pos u0.left;
      }) new) some.2
      ∙ ap (λ k. done (record { term = p.0; arg_tys = p.1; ret_ty = p.2; pure = b1; multi = b2; partial = b3; rec = b4; pos = k }) new) (sym here)
