-- Equalities of a site with itself say nothing; and what the faults of two rules mean for matching.
use Rattle.std.proofs.Common.{◌≡◌, ◌≢◌, ◌<◌, ◌⊎◌, inl, inr, ℕ, suc, sym, ◌∙◌, ap, subst, arith}
use Rattle.isle_meaning.specs.Sites.{Site, bool_site, int_site, prim_site, argument, extractor_call, constructor_call, iterator}
use Rattle.isle_meaning.specs.Sites.{make_variant, match_variant, make_struct, extract_struct, make_some, match_some, match_tuple}
use Rattle.isle_meaning.specs.Demands.{Constraint, variant_constraint, struct_constraint, Demand, constrained, equal, Among}
use Rattle.isle_meaning.specs.Holds.{IsReflexive}
use Rattle.isle_meaning.specs.Derived.{Derived, demanded, flipped, chained, shared, like_variant, like_struct, Closed, FieldOf}
use Rattle.isle_meaning.specs.Derived.{of_variant, of_struct, Inside, directly, further_in}
use Rattle.isle_meaning.specs.Faults.{IsUnreachable}
use Rattle.isle_meaning.specs.Laws.Matching.{SelfEqualitiesSayNothing, ShadowedIsNeverChosen, BothMatchOverlap}
use Rattle.isle_meaning.proofs.Matching.Whole.{wider_matches, never_match_both}

-- how many fields deep
abbrev deep : Site → ℕ
deep (match_variant s k i) = suc (deep s)
deep (extract_struct s i) = suc (deep s)
deep (bool_site b ty) = 0
deep (int_site n ty) = 0
deep (prim_site n) = 0
deep (argument i) = 0
deep (extractor_call t s) = 0
deep (constructor_call t ss i) = 0
deep (iterator s) = 0
deep (make_variant ty k ss) = 0
deep (make_struct ty ss) = 0
deep (make_some s) = 0
deep (match_some s) = 0
deep (match_tuple s i) = 0

module _ (D : Demand → Type 0) where
  field_deeper : (s u : Site) → FieldOf D s u → deep s < deep u
  field_deeper s u (of_variant h l) = omega arith
  field_deeper s u (of_struct h l) = omega arith

  inside_deeper : (s u : Site) → Inside D s u → deep s < deep u
  inside_deeper s u (directly f) = field_deeper s u f
  inside_deeper s u (further_in {u = w} h f) = let a = inside_deeper s w h in let b = field_deeper w u f in omega arith

  -- A site isn't inside itself.
  pub inside_apart : (s u : Site) → Inside D s u → s ≢ u
  inside_apart s u h e = let below = inside_deeper s u h in let q : deep s ≡ deep u = ap deep e in omega arith

module _ (D E : Demand → Type 0) (more : (d : Demand) → D d → E d ⊎ IsReflexive d) where
  through : (s u : Site) → (P : Site → Type 0) → s ≡ u → P s → P u
  through s u P e h = subst P e h

  pub derived_less : (d : Demand) → Derived D d → Derived E d ⊎ IsReflexive d
  derived_less d (demanded h) = elim (more d h) [ inl e ↦ inl (demanded e) | inr r ↦ inr r ]
  derived_less d (flipped {s = s} {u = u} h) = elim (derived_less (equal s u) h) [ inl e ↦ inl (flipped e) | inr r ↦ inr (sym r) ]
  derived_less d (chained {s = s} {u = u} {w = w} h g) = elim (derived_less (equal s u) h) [
    | inl e ↦ elim (derived_less (equal u w) g)
        [ inl f ↦ inl (chained e f) | inr q ↦ inl (subst (λ (z : Site). Derived E (equal s z)) q e) ]
    | inr r ↦ elim (derived_less (equal u w) g) [
      | inl f ↦ inl (subst (λ (z : Site). Derived E (equal z w)) (sym r) f)
      | inr q ↦ inr (r
          ∙ q)
    ]
  ]
  derived_less d (shared {s = s} {u = u} {c = c} h g) = elim (derived_less (constrained s c) g) [
    | inl f ↦ elim (derived_less (equal s u) h)
        [ inl e ↦ inl (shared e f) | inr r ↦ inl (subst (λ (z : Site). Derived E (constrained z c)) r f) ]
    | inr q ↦ absurd q
  ]
  derived_less d (like_variant {s = s} {u = u} {ty = ty} {k = k} {n = n} {i = i} h g l) = elim (derived_less (equal s u) h) [
    | inl e ↦ elim (derived_less (constrained s (variant_constraint ty k n)) g) [ inl f ↦ inl (like_variant e f l) | inr q ↦ absurd q ]
    | inr r ↦ inr (ap (λ (z : Site). match_variant z k i) r)
  ]
  derived_less d (like_struct {s = s} {u = u} {ty = ty} {n = n} {i = i} h g l) = elim (derived_less (equal s u) h) [
    | inl e ↦ elim (derived_less (constrained s (struct_constraint ty n)) g) [ inl f ↦ inl (like_struct e f l) | inr q ↦ absurd q ]
    | inr r ↦ inr (ap (λ (z : Site). extract_struct z i) r)
  ]

  pub has_less : (s : Site) (c : Constraint) → Derived D (constrained s c) → Derived E (constrained s c)
  has_less s c h = elim (derived_less (constrained s c) h) [ inl e ↦ e | inr r ↦ absurd r ]

  pub same_less : (s u : Site) → s ≢ u → Derived D (equal s u) → Derived E (equal s u)
  same_less s u n h = elim (derived_less (equal s u) h) [ inl e ↦ e | inr r ↦ absurd (n r) ]

  field_less : (s u : Site) → FieldOf D s u → FieldOf E s u
  field_less s u (of_variant {ty = ty} {k = k} {n = n} h l) = of_variant (has_less s (variant_constraint ty k n) h) l
  field_less s u (of_struct {ty = ty} {n = n} h l) = of_struct (has_less s (struct_constraint ty n) h) l

  inside_less : (s u : Site) → Inside D s u → Inside E s u
  inside_less s u (directly f) = directly (field_less s u f)
  inside_less s u (further_in {u = w} h f) = further_in (inside_less s w h) (field_less w u f)

  pub unreachable_less : IsUnreachable D → IsUnreachable E
  unreachable_less (inl c) =
      inl (record {
        site = c.site;
        one = c.one;
        other = c.other;
        has_one = has_less _ _ (c.has_one);
        has_other =
            has_less _ _ (c.has_other);
        differ = c.differ;
      })
  unreachable_less (inr c) =
      let below = inside_deeper D (c.site) (c.part) (c.inside) in
      let apart : c.site ≢ c.part = λ e. let q : deep (c.site) ≡ deep (c.part) = ap deep e in omega arith in
      inr (record { site = c.site; part = c.part; inside = inside_less _ _ (c.inside); same = same_less _ _ apart (c.same) })

module _ (D E : Demand → Type 0) (more : (d : Demand) → D d → E d ⊎ IsReflexive d) (back : (d : Demand) → E d → D d ⊎ IsReflexive d) where
  pub closed_less : (d : Demand) → Closed D d → Closed E d
  closed_less (constrained s c) h = has_less D E more s c h
  closed_less (equal s u) h = (same_less D E more s u (h.1) (h.0), h.1, λ c d. h.2 c (has_less E D back s c d))

pub self_equalities_say_nothing : SelfEqualitiesSayNothing
self_equalities_say_nothing ds es l =
    let back : (d : Demand) → Among es d → Among ds d ⊎ IsReflexive d = λ d h. inl (l.sound d h) in (
      λ d. (closed_less (Among ds) (Among es) (l.complete) back d, closed_less (Among es) (Among ds) back (l.complete) d),
      (unreachable_less (Among ds) (Among es) (l.complete), unreachable_less (Among es) (Among ds) back),
    )

pub shadowed_is_never_chosen : ShadowedIsNeverChosen
shadowed_is_never_chosen facts tys c args high low p q is its s h m =
    (wider_matches facts tys c args high low is its s (h.subset.0) (h.subset.2 (h.no_more)) m, h.above)

pub both_match_overlap : BothMatchOverlap
both_match_overlap facts tys c args one other is its m n d = never_match_both facts tys c args one other is its d m n
