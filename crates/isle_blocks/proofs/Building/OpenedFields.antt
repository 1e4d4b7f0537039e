-- What stands behind a rule's own sites are fields that its demands open.
use Rattle.std.proofs.Common.{◌≡◌, ◌<◌, ◌≤◌, ◌⊎◌, ◌++◌, ◌∷◌, inl, inr, ℕ, List, [], length, Some, slice_get, refl, sym, ◌∙◌, ap, subst, arith}
use Rattle.std.proofs.lemmas.List.{length_push}
use Rattle.std.proofs.lemmas.Bool.{cases_eq}
use Rattle.isle_containers.proofs.Lists.{slice_get-kept, slice_get-last}
use Rattle.isle_types.specs.declared.ids.Sym.{Sym}
use Rattle.isle_meaning.specs.Sites.{Site, bool_site, int_site, prim_site, argument, extractor_call, constructor_call, iterator}
use Rattle.isle_meaning.specs.Sites.{make_variant, match_variant, make_struct, extract_struct, make_some, match_some, match_tuple}
use Rattle.isle_meaning.specs.Sites.{Sites, no_sites, more_sites}
use Rattle.isle_meaning.specs.Demands.{Demand, Among}
use Rattle.isle_meaning.specs.Derived.{FieldOf}
use Rattle.isle_meaning.specs.Needs.{IsNeeded}
use Rattle.isle_meaning.specs.Numbered.{Row, At, AtAll}
use Rattle.isle_meaning.proofs.Matching.Numbering.{one_site}
use Rattle.isle_blocks.specs.declared.binding.Binding.{Binding}
use Rattle.isle_blocks.specs.Rows.{IsInjective, rows_of}
use Rattle.isle_blocks.specs.Tables.{IsTable}
use Rattle.isle_blocks.specs.Closure.{Stands}
use Rattle.isle_blocks.specs.Inside.Placing.{IsExplained}
use Rattle.isle_blocks.specs.Building.Standing.{Adds, begin, next, IsEntryOf, IsPut, GoesOn}
use Rattle.isle_blocks.proofs.Building.Tables.{at_within}
use Rattle.isle_blocks.proofs.Closure.Longer.{at_longer}
use Rattle.isle_blocks.proofs.Closure.Trees.{stands, one_number}

all_on : (old new : List Row) → GoesOn old new → (ss : Sites) (js : List ℕ) → AtAll old ss js → AtAll new ss js
all_on old new on no_sites [] x = tt
all_on old new on no_sites (j ∷ js) x = absurd x
all_on old new on (more_sites s ss) [] x = absurd x
all_on old new on (more_sites s ss) (j ∷ js) x = (at_longer old new on s j (x.0), all_on old new on ss js (x.1))

-- an entry of a site stands for it in a longer table
entry_at : (old new : List Row) → GoesOn old new → (s : Site) (row : Row) (k : ℕ) → IsEntryOf old s row → slice_get new k ≡ Some row → At new s k
entry_at old new on (bool_site b ty) row k e at = at ∙ ap Some e
entry_at old new on (int_site n ty) row k e at = at ∙ ap Some e
entry_at old new on (prim_site n) row k e at = at ∙ ap Some e
entry_at old new on (argument i) row k e at = at ∙ ap Some e
entry_at old new on (extractor_call t s) row k (j, e, p) at = (j, at ∙ ap Some e, at_longer old new on s j p)
entry_at old new on (constructor_call t ss i) row k (js, e, p) at = (js, at ∙ ap Some e, all_on old new on ss js p)
entry_at old new on (iterator s) row k (j, e, p) at = (j, at ∙ ap Some e, at_longer old new on s j p)
entry_at old new on (make_variant ty v ss) row k (js, e, p) at = (js, at ∙ ap Some e, all_on old new on ss js p)
entry_at old new on (match_variant s v i) row k (j, e, p) at = (j, at ∙ ap Some e, at_longer old new on s j p)
entry_at old new on (make_struct ty ss) row k (js, e, p) at = (js, at ∙ ap Some e, all_on old new on ss js p)
entry_at old new on (extract_struct s i) row k (j, e, p) at = (j, at ∙ ap Some e, at_longer old new on s j p)
entry_at old new on (make_some s) row k (j, e, p) at = (j, at ∙ ap Some e, at_longer old new on s j p)
entry_at old new on (match_some s) row k (j, e, p) at = (j, at ∙ ap Some e, at_longer old new on s j p)
entry_at old new on (match_tuple s i) row k (j, e, p) at = (j, at ∙ ap Some e, at_longer old new on s j p)

put_on : (old : List Row) (row : Row) (k : ℕ) (new : List Row) → IsPut old row k new → GoesOn old new
put_on old row k new (inl (there, same)) i found at = subst (λ (l : List Row). slice_get l i ≡ Some found) (sym same) at
put_on old row k new (inr (absent, last, same)) i found at =
    subst (λ (l : List Row). slice_get l i ≡ Some found) (sym same) (slice_get-kept old (row ∷ []) i found at)

put_at : (old : List Row) (row : Row) (k : ℕ) (new : List Row) → IsPut old row k new → slice_get new k ≡ Some row
put_at old row k new (inl (there, same)) = subst (λ (l : List Row). slice_get l k ≡ Some row) (sym same) there
put_at old row k new (inr (absent, last, same)) =
    subst (λ (l : List Row). slice_get l k ≡ Some row) (sym same)
    (subst (λ (i : ℕ). slice_get (old ++ row ∷ []) i ≡ Some row) (sym last) (slice_get-last old row))

-- the table goes on from the one before
adds_on : {base : List Row} {needed : List Site} {mid : List Row} → Adds base needed mid → GoesOn base mid
adds_on begin i found at = at
adds_on (next {old = old} new site row k early entry put) i found at = put_on old row k new put i found (adds_on early i found at)

needed_more : (ss : List Site) (last s : Site) → IsNeeded ss s → IsNeeded (ss ++ last ∷ []) s
needed_more [] last s none = absurd none
needed_more (t ∷ ts) last s (inl e) = inl e
needed_more (t ∷ ts) last s (inr h) = inr (needed_more ts last s h)

needed_last : (ss : List Site) (last : Site) → IsNeeded (ss ++ last ∷ []) last
needed_last [] last = inl refl
needed_last (t ∷ ts) last = inr (needed_last ts last)

split_last : (ss : List Site) (last s : Site) → IsNeeded (ss ++ last ∷ []) s → IsNeeded ss s ⊎ (s ≡ last)
split_last [] last s (inl e) = inr e
split_last [] last s (inr none) = absurd none
split_last (t ∷ ts) last s (inl e) = inl (inl e)
split_last (t ∷ ts) last s (inr h) = elim (split_last ts last s h) [
  | inl before ↦ inl (inr before)
  | inr e ↦ inr e
]

-- each needed site stands in the table
adds_stand : {base : List Row} {needed : List Site} {mid : List Row} → Adds base needed mid → (s : Site) → IsNeeded needed s → Stands mid s
adds_stand begin s h = absurd h
adds_stand (next {needed = before} {old = old} new site row k early entry put) s h = elim (split_last before site s h) [
  | inl earlier ↦ let (j, at) = adds_stand early s earlier in (j, at_longer old new (put_on old row k new put) s j at)
  | inr e ↦ subst (λ (t : Site). Stands new t) (sym e) (k, entry_at old new (put_on old row k new put) site row k entry (put_at old row k new put))
]

no_place : (rows : List Row) → rows ≡ [] → (k : ℕ) → k < length rows → ⊥
no_place [] e k low = omega arith
no_place (row ∷ rows) e k low = absurd cc

-- each number of a table that is made from nothing is that of a needed site
adds_only : {base : List Row} {needed : List Site} {own : List Row} → Adds base needed own → base ≡ [] → (k : ℕ) → k < length own
    → (t : Site) × IsNeeded needed t × At own t k
adds_only {base = base} begin e k low = absurd (no_place base e k low)
adds_only (next {needed = before} {old = old} new site row i early entry put) e k low = elim (from put) [
  | inl inside ↦ let (t, h, at) = adds_only early e k inside in (t, needed_more before site t h, at_longer old new (put_on old row i new put) t k at)
  | inr last ↦ (
    site,
    needed_last before site,
    subst (λ (n : ℕ). At new site n) (sym last)
        (entry_at old new (put_on old row i new put) site row i entry (put_at old row i new put)),
  )
]
  where
    from : IsPut old row i new → (k < length old) ⊎ (k ≡ i)
    from (inl (there, same)) = inl (subst (λ (l : List Row). k < length l) same low)
    from (inr (absent, last, same)) =
        let more : k < length (old ++ row ∷ []) = subst (λ (l : List Row). k < length l) same low in
        elim (cases_eq k (length old)) [
          | inl here ↦ inr (here ∙ sym last)
          | inr other ↦ inl (omega (arith, length_push old row))
        ]

module _ (name : Sym → List ℕ) (injective : IsInjective name) (ds : List Demand) (base own table : List Binding) (ok : IsTable table)
    (explained : (s : Site) → Stands (rows_of name table) s → IsExplained name ds base own s) (needed : List Site)
    (adds : Adds [] needed (rows_of name own))
    (mid : List Row) (added : Adds (rows_of name base) needed mid) (goes_on : GoesOn mid (rows_of name table)) where
  apart : (s : Site) (j k : ℕ) → length mid ≤ k → At (rows_of name table) s k → At mid s j → ⊥
  apart s j k high at there =
      let same : j ≡ k = one_number name table injective ok s j k (at_longer mid (rows_of name table) goes_on s j there) at in
      let within : j < length mid = at_within mid s j there in omega arith

  pub opened : (k : ℕ) → length mid ≤ k → k < length table → (t : Site) × (s : Site) × FieldOf (Among ds) t s × At (rows_of name table) s k
  opened k high low =
      let (s, at) = stands name table ok k low in
      elim (explained s (k, at)) [
        | inl (j, there) ↦ absurd (apart s j k high at (at_longer (rows_of name base) mid (adds_on added) s j there))
        | inr (inl (j, there)) ↦
            let (t, h, at_t) = adds_only adds refl j (at_within (rows_of name own) s j there) in
            let (i, in_mid) = adds_stand added s (subst (λ (z : Site). IsNeeded needed z) (one_site (rows_of name own) t s j at_t there) h) in
            absurd (apart s i k high at in_mid)
        | inr (inr (t, field)) ↦ (t, s, field, at)
      ]
