-- A number stands for one site; so what follows from what is recorded follows from the demands.
use Rattle.std.proofs.Common.{◌≡◌, ◌≢◌, ◌⊎◌, inl, inr, ℕ, List, [], ◌∷◌, Bool, true, false, ◌==◌, Option, Some, None, slice_get, refl, sym}
use Rattle.std.proofs.Common.{◌∙◌, ap, subst, arith}
use Rattle.std.proofs.lemmas.Bool.{eqb-true, eq-eqb}
use Rattle.isle_meaning.specs.Sites.{Site, bool_site, int_site, prim_site, argument, extractor_call, constructor_call, iterator}
use Rattle.isle_meaning.specs.Sites.{make_variant, match_variant, make_struct, extract_struct, make_some, match_some, match_tuple}
use Rattle.isle_meaning.specs.Sites.{Sites, no_sites, more_sites}
use Rattle.isle_meaning.specs.Demands.{Constraint, Demand, constrained, equal, Among}
use Rattle.isle_meaning.specs.Holds.{IsReflexive}
use Rattle.isle_meaning.specs.Numbered.{Row, bool_row, int_row, prim_row, argument_row, extractor_row, constructor_row, iterator_row}
use Rattle.isle_meaning.specs.Numbered.{make_variant_row, match_variant_row, make_struct_row, extract_struct_row, make_some_row}
use Rattle.isle_meaning.specs.Numbered.{match_some_row, match_tuple_row, At, AtAll, Recorded, AreRecorded}
use Rattle.isle_meaning.specs.Laws.Matching.{NumbersSayDemands}
use Rattle.std.specs.Prelude.{Contains}
use Rattle.isle_meaning.proofs.Matching.Leaving.{closed_less, unreachable_less}

-- which kind of row, or of site
abbrev tag : Row → ℕ
tag (bool_row b ty) = 0
tag (int_row n ty) = 1
tag (prim_row n) = 2
tag (argument_row i) = 3
tag (extractor_row t s) = 4
tag (constructor_row t ss i) = 5
tag (iterator_row s) = 6
tag (make_variant_row ty v ss) = 7
tag (match_variant_row s v i) = 8
tag (make_struct_row ty ss) = 9
tag (extract_struct_row s i) = 10
tag (make_some_row s) = 11
tag (match_some_row s) = 12
tag (match_tuple_row s i) = 13

abbrev tag_site : Site → ℕ
tag_site (bool_site b ty) = 0
tag_site (int_site n ty) = 1
tag_site (prim_site n) = 2
tag_site (argument i) = 3
tag_site (extractor_call t s) = 4
tag_site (constructor_call t ss i) = 5
tag_site (iterator s) = 6
tag_site (make_variant ty v ss) = 7
tag_site (match_variant s v i) = 8
tag_site (make_struct ty ss) = 9
tag_site (extract_struct s i) = 10
tag_site (make_some s) = 11
tag_site (match_some s) = 12
tag_site (match_tuple s i) = 13

abbrev tag_at : Option Row → ℕ
tag_at None = 14
tag_at (Some row) = tag row

module _ (table : List Row) where
  tagged : (s : Site) (k : ℕ) → At table s k → tag_at (slice_get table k) ≡ tag_site s
  tagged (bool_site b ty) k p = ap tag_at p
  tagged (int_site n ty) k p = ap tag_at p
  tagged (prim_site n) k p = ap tag_at p
  tagged (argument i) k p = ap tag_at p
  tagged (extractor_call t s) k (j, p, x) = ap tag_at p
  tagged (constructor_call t ss i) k (j, p, x) = ap tag_at p
  tagged (iterator s) k (j, p, x) = ap tag_at p
  tagged (make_variant ty v ss) k (j, p, x) = ap tag_at p
  tagged (match_variant s v i) k (j, p, x) = ap tag_at p
  tagged (make_struct ty ss) k (j, p, x) = ap tag_at p
  tagged (extract_struct s i) k (j, p, x) = ap tag_at p
  tagged (make_some s) k (j, p, x) = ap tag_at p
  tagged (match_some s) k (j, p, x) = ap tag_at p
  tagged (match_tuple s i) k (j, p, x) = ap tag_at p

  mutual
    pub one_site : (s u : Site) (k : ℕ) → At table s k → At table u k → s ≡ u
    one_site (bool_site b ty) (bool_site d t) k p q = cc
    one_site (int_site n ty) (int_site m t) k p q = cc
    one_site (prim_site n) (prim_site m) k p q = cc
    one_site (argument i) (argument j) k p q = cc
    one_site (extractor_call t s) (extractor_call w u) k (a, p, x) (b, q, y) = let e : b ≡ a = cc in let r : s ≡ u =
        one_site s u a x (subst (At table u) e y) in cc
    one_site (constructor_call t ss i) (constructor_call w us j) k (a, p, x) (b, q, y) = let e : b ≡ a = cc in let r : ss ≡ us =
        one_sites ss us a x (subst (AtAll table us) e y) in cc
    one_site (iterator s) (iterator u) k (a, p, x) (b, q, y) = let e : b ≡ a = cc in let r : s ≡ u =
        one_site s u a x (subst (At table u) e y) in cc
    one_site (make_variant t v ss) (make_variant z w us) k (a, p, x) (b, q, y) = let e : b ≡ a = cc in let r : ss ≡ us =
        one_sites ss us a x (subst (AtAll table us) e y) in cc
    one_site (match_variant s v i) (match_variant u w j) k (a, p, x) (b, q, y) = let e : b ≡ a = cc in let r : s ≡ u =
        one_site s u a x (subst (At table u) e y) in cc
    one_site (make_struct t ss) (make_struct z us) k (a, p, x) (b, q, y) = let e : b ≡ a = cc in let r : ss ≡ us =
        one_sites ss us a x (subst (AtAll table us) e y) in cc
    one_site (extract_struct s i) (extract_struct u j) k (a, p, x) (b, q, y) = let e : b ≡ a = cc in let r : s ≡ u =
        one_site s u a x (subst (At table u) e y) in cc
    one_site (make_some s) (make_some u) k (a, p, x) (b, q, y) = let e : b ≡ a = cc in let r : s ≡ u =
        one_site s u a x (subst (At table u) e y) in cc
    one_site (match_some s) (match_some u) k (a, p, x) (b, q, y) = let e : b ≡ a = cc in let r : s ≡ u =
        one_site s u a x (subst (At table u) e y) in cc
    one_site (match_tuple s i) (match_tuple u j) k (a, p, x) (b, q, y) = let e : b ≡ a = cc in let r : s ≡ u =
        one_site s u a x (subst (At table u) e y) in cc
    one_site s u k x y = let p : tag_site s ≡ tag_site u = sym (tagged s k x) ∙ tagged u k y in absurd (omega arith)

    one_sites : (ss us : Sites) (ks : List ℕ) → AtAll table ss ks → AtAll table us ks → ss ≡ us
    one_sites no_sites no_sites ks x y = refl
    one_sites no_sites (more_sites u us) [] x y = absurd y
    one_sites no_sites (more_sites u us) (k ∷ ks) x y = absurd x
    one_sites (more_sites s ss) us [] x y = absurd x
    one_sites (more_sites s ss) no_sites (k ∷ ks) x y = absurd y
    one_sites (more_sites s ss) (more_sites u us) (k ∷ ks) x y = let p = one_site s u k (x.0) (y.0) in let q =
        one_sites ss us ks (x.1) (y.1) in cc

module _ (table : List Row) (has : List (ℕ × Constraint)) (same : List (ℕ × ℕ)) (ds : List Demand) (are : AreRecorded table has same ds)
  where
    sound : (d : Demand) → Recorded table has same d → Among ds d ⊎ IsReflexive d
    sound (constrained s c) (k, h, x) =
        let (t, y, i) = are.constraint k c h in inl (subst (λ (z : Site). Among ds (constrained z c)) (one_site table t s k y x) i)
    sound (equal s u) (a, b, h, x, y) =
        let (t, w, z, v, i) = are.equality a b h in
        inl (subst (λ (r : Site). Among ds (equal s r)) (one_site table w u b v y)
        (subst (λ (r : Site). Among ds (equal r w)) (one_site table t s a z x) i))

    complete : (d : Demand) → Among ds d → Recorded table has same d ⊎ IsReflexive d
    complete (constrained s c) i = let (k, x, h) = are.all_constraints s c i in inl (k, h, x)
    complete (equal s u) i = let (a, b, x, y, h) = are.all_equalities s u i in go a b x y h (a == b) refl
      where
        go : (a b : ℕ) → At table s a → At table u b → (a ≢ b → Contains same (a, b)) → (r : Bool) → (a == b) ≡ r
            → Recorded table has same (equal s u) ⊎ (s ≡ u)
        go a b x y h true e = inr (one_site table s u a x (subst (At table u) (sym (eqb-true a b e)) y))
        go a b x y h false e = inl (a, b, h (λ p. let q = eq-eqb a b p in cc), x, y)

pub numbers_say_demands : NumbersSayDemands
numbers_say_demands table has same ds are =
    let to = sound table has same ds are in let back = complete table has same ds are in (
      λ d. (closed_less (Recorded table has same) (Among ds) to back d, closed_less (Among ds) (Recorded table has same) back to d),
      (unreachable_less (Recorded table has same) (Among ds) to, unreachable_less (Among ds) (Recorded table has same) back),
    )
