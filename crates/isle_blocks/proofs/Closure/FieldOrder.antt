-- Fields that are added site by site are in order.
use Rattle.std.proofs.Common.{◌≡◌, ◌<◌, ◌≤◌, ◌+◌, ◌++◌, ◌⊎◌, inl, inr, ℕ, suc, List, [], ◌∷◌, length, length-append, Option, Some, None, slice_get, sym, ◌∙◌, ap, subst, arith}
use Rattle.std.proofs.lemmas.Bool.{cases_lt}
use Rattle.std.proofs.lemmas.List.{length-map}
use Rattle.std.proofs.lemmas.Option.{slice_get_within, same_Some}
use Rattle.isle_containers.proofs.Lists.{slice_get-kept, slice_get-last, slice_get-pushed}
use Rattle.isle_types.specs.declared.ids.Sym.{Sym}
use Rattle.isle_meaning.specs.Numbered.{Row, match_variant_row, extract_struct_row}
use Rattle.isle_blocks.specs.declared.ids.BindingId.{BindingId}
use Rattle.isle_blocks.specs.declared.binding.Binding.{Binding}
use Rattle.isle_blocks.specs.Tables.{IsInterned}
use Rattle.isle_blocks.specs.Rows.{row_of, rows_of}
use Rattle.isle_blocks.specs.Inside.ClosureFields.{field_binding}
use Rattle.isle_blocks.specs.Inside.FieldOrder.{IsFieldAt, AreFieldsInOrder, AreFieldsBefore}
use Rattle.isle_blocks.specs.Closure.{ComesBefore, AreInOrder}
use Rattle.isle_blocks.specs.Building.Standing.{IsFieldRow}
use Rattle.isle_blocks.proofs.Closure.Trees.{field_parts, row_get}

-- no field is added
pub none_added : (table : List Binding) → AreFieldsInOrder (length table) table
none_added table = record {
  fields = λ k le lt. absurd (omega (arith, le, lt));
  order = λ k l s i t j le lt at (kind, e). absurd (let within = slice_get_within table l (field_binding kind t j) e in
      omega (arith, le, lt, within));
}

pub none_before : (table : List Binding) (s i : ℕ) → AreFieldsBefore (length table) table s i
none_before table s i = record {
  ordered = none_added table;
  before = λ k t j le (kind, e). absurd (let within = slice_get_within table k (field_binding kind t j) e in omega (arith, le, within));
}

-- what comes before a field comes before the next one, and before those of the next site
before_next : (t j s i : ℕ) → ComesBefore t j s i → ComesBefore t j s (i + 1)
before_next t j s i (inl less) = inl less
before_next t j s i (inr (same, less)) = inr (same, omega (arith, less))

before_site : (t j s i : ℕ) → ComesBefore t j s i → ComesBefore t j (s + 1) 0
before_site t j s i (inl less) = inl (omega (arith, less))
before_site t j s i (inr (same, less)) = inl (omega (arith, same))

pub to_next : (first : ℕ) (table : List Binding) (s i : ℕ) → AreFieldsBefore first table s i → AreFieldsBefore first table s (i + 1)
to_next first table s i h = record { ordered = h.ordered; before = λ k t j le at. before_next t j s i (h.before k t j le at) }

pub to_site : (first : ℕ) (table : List Binding) (s i : ℕ) → AreFieldsBefore first table s i → AreFieldsBefore first table (s + 1) 0
to_site first table s i h = record { ordered = h.ordered; before = λ k t j le at. before_site t j s i (h.before k t j le at) }

-- a field is put behind those before it
module _ (first : ℕ) (table : List Binding) (s i : ℕ) (kind : Option ℕ) (h : AreFieldsBefore first table s i) where
  abbrev new : Binding
  new = field_binding kind s i

  abbrev longer : List Binding
  longer = table ++ field_binding kind s i ∷ []

  len : length longer ≡ suc (length table)
  len = simp length-append (omega arith)

  old_or_last : (k t j : ℕ) → IsFieldAt longer k t j → IsFieldAt table k t j ⊎ ((k ≡ length table) × (s ≡ t) × (i ≡ j))
  old_or_last k t j (other, e) = elim (slice_get-pushed table new k (field_binding other t j) e) [
    | inl old ↦ inl (other, old)
    | inr (last, same) ↦ let (p, q, r) = field_parts kind s i other t j same in inr (last, p, r)
  ]

  field_at : (k : ℕ) → first ≤ k → k < length longer → (t : ℕ) × (j : ℕ) × IsFieldAt longer k t j
  field_at k le lt = elim (cases_lt k (length table)) [
    | inl less ↦
        let (t, j, at) = h.ordered.fields k le less in
        (t, j, (at.0, slice_get-kept table (new ∷ []) k (field_binding at.0 t j) at.1))
    | inr more ↦
        let last : k ≡ length table = let l = len in omega (arith, l, lt, more) in
        (s, i, (kind, subst (λ (z : ℕ). slice_get longer z ≡ Some new) (sym last) (slice_get-last table new)))
  ]

  in_order : (k l t j u m : ℕ) → first ≤ k → k < l → IsFieldAt longer k t j → IsFieldAt longer l u m → ComesBefore t j u m
  in_order k l t j u m le lt p q = elim (old_or_last l u m q) [
    | inl old_l ↦ elim (old_or_last k t j p) [
      | inl old_k ↦ h.ordered.order k l t j u m le lt old_k old_l
      | inr (last, same_s, same_i) ↦
          let within = slice_get_within table l (field_binding old_l.0 u m) old_l.1 in
          absurd (omega (arith, within, last, lt))
    ]
    | inr (last_l, same_s, same_i) ↦ elim (old_or_last k t j p) [
      | inl old_k ↦
          subst (λ (z : ℕ). ComesBefore t j z m) same_s (subst (λ (z : ℕ). ComesBefore t j s z) same_i (h.before k t j le old_k))
      | inr (last_k, other_s, other_i) ↦ absurd (omega (arith, last_k, last_l, lt))
    ]
  ]

  pub pushed : AreFieldsBefore first longer s (i + 1)
  pushed = record {
    ordered = record { fields = field_at; order = in_order };
    before = λ k t j le at. elim (old_or_last k t j at) [
      | inl old ↦ before_next t j s i (h.before k t j le old)
      | inr (last, same_s, same_i) ↦ inr (sym same_s, omega (arith, same_i))
    ];
  }

-- a field has its number
pub interned : (first : ℕ) (table : List Binding) (s i : ℕ) (kind : Option ℕ) (site : Binding) (id : BindingId) (new : List Binding)
    → site ≡ field_binding kind s i → IsInterned table site id new → AreFieldsBefore first table s i → AreFieldsBefore first new s (i + 1)
interned first table s i kind site id more is (inl (there, same)) h =
    subst (λ (l : List Binding). AreFieldsBefore first l s (i + 1)) (sym same) (to_next first table s i h)
interned first table s i kind site id longer_table is (inr (absent, last, more)) h =
    let e : longer_table ≡ table ++ field_binding kind s i ∷ [] = more ∙ ap (λ (b : Binding). table ++ b ∷ []) is in
    subst (λ (l : List Binding). AreFieldsBefore first l s (i + 1)) (sym e) (pushed first table s i kind h)

-- the entry of a field has one site and one index
one_field : (rows : List Row) (k s i t j : ℕ) → IsFieldRow rows k s i → IsFieldRow rows k t j → (s ≡ t) × (i ≡ j)
one_field rows k s i t j (inl (v, e)) (inl (w, f)) =
    let same : match_variant_row s v i ≡ match_variant_row t w j = same_Some (match_variant_row s v i) (match_variant_row t w j) (sym e ∙ f) in
    let p : s ≡ t = cc in let q : i ≡ j = cc in (p, q)
one_field rows k s i t j (inl (v, e)) (inr f) =
    let same : match_variant_row s v i ≡ extract_struct_row t j = same_Some (match_variant_row s v i) (extract_struct_row t j)
    (sym e ∙ f) in absurd cc
one_field rows k s i t j (inr e) (inl (w, f)) =
    let same : extract_struct_row s i ≡ match_variant_row t w j = same_Some (extract_struct_row s i) (match_variant_row t w j)
    (sym e ∙ f) in absurd cc
one_field rows k s i t j (inr e) (inr f) =
    let same : extract_struct_row s i ≡ extract_struct_row t j = same_Some (extract_struct_row s i) (extract_struct_row t j) (sym e ∙ f) in
    let p : s ≡ t = cc in let q : i ≡ j = cc in (p, q)

module _ (name : Sym → List ℕ) (table : List Binding) where
  abbrev rows : List Row
  rows = rows_of name table

  as_row : (k s i : ℕ) → IsFieldAt table k s i → IsFieldRow (rows_of name table) k s i
  as_row k s i (Some v, e) = inl (v, row_get name table k (field_binding (Some v) s i) e)
  as_row k s i (None, e) = inr (row_get name table k (field_binding None s i) e)

  row_within : (k s i : ℕ) → IsFieldRow (rows_of name table) k s i → k < length table
  row_within k s i (inl (v, e)) =
      let l = slice_get_within rows k (match_variant_row s v i) e in let m = length-map table (row_of name) in omega (arith, l, m)
  row_within k s i (inr e) =
      let l = slice_get_within rows k (extract_struct_row s i) e in let m = length-map table (row_of name) in omega (arith, l, m)

  -- so are the entries
  pub rows_in_order : (first : ℕ) → AreFieldsInOrder first table → AreInOrder (IsFieldRow (rows_of name table)) first (length (rows_of name table))
  rows_in_order first h = record {
    fields = λ k le lt.
        let (s, i, at) = h.fields k le (let m = length-map table (row_of name) in omega (arith, lt, m)) in (s, i, as_row k s i at);
    order = λ k l s i t j le lt p q.
        let l_in = row_within l t j q in
        let (s', i', at_k) = h.fields k le (omega (arith, l_in, lt)) in
        let (t', j', at_l) = h.fields l (omega (arith, le, lt)) l_in in
        let (ps, pi) = one_field rows k s' i' s i (as_row k s' i' at_k) p in
        let (qt, qj) = one_field rows l t' j' t j (as_row l t' j' at_l) q in
        subst (λ (z : ℕ). ComesBefore z i t j) ps (subst (λ (z : ℕ). ComesBefore s' z t j) pi
        (subst (λ (z : ℕ). ComesBefore s' i' z j) qt (subst (λ (z : ℕ). ComesBefore s' i' t' z) qj (h.order k l s' i' t' j' le lt at_k at_l))));
  }
