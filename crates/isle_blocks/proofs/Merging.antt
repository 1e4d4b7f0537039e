-- Two lists of tests with ascending sites, gone through side by side.
use Rattle.std.proofs.Common.{◌≡◌, ℕ, ◌+◌, ◌<◌, ◌≤◌, ◌⊎◌, ◌↔◌, length, get_or, Contains, sym, ap, ◌∙◌, inl, inr, arith}
use Rattle.std.specs.List.Sorted.{IsStrictlySortedBy}
use Rattle.std.specs.Map.{keys_of}
use Rattle.std.specs.Ordering.{nat_cmp}
use Rattle.std.specs.declared.cmp.Ordering.TheVariants.{Less}
use Rattle.std.proofs.lemmas.Bool.{cases_eq, cases_lt}
use Rattle.std.proofs.lemmas.Bool.Decides.{nat_tests}
use Rattle.std.proofs.lemmas.List.{length-map, get_or-map, get_or_default}
use Rattle.std.proofs.lemmas.List.Elements.{Contains-get_or}
use Rattle.std.proofs.lemmas.Map.Keys.{Less-from_sorted}
use Rattle.isle_blocks.specs.declared.ids.BindingId.{BindingId}
use Rattle.isle_blocks.specs.declared.constraint.Constraint.{Constraint}
use Rattle.isle_blocks.specs.declared.constraint.Constraint.TheVariants as tests
use Rattle.isle_blocks.specs.Rules.{Tests, AreApart, AreWithin, HaveInCommon, site_cmp}

abbrev pub Entry : Type 0
Entry = BindingId × Constraint

-- an entry, for places past the end
any_entry : Entry
any_entry = (record { 0 = 0 }, tests.Some)

-- the number of the site at a place
abbrev pub site_at : Tests → ℕ → Entry → ℕ
site_at tests k d = (get_or tests k d).0.0

-- sites ascend
abbrev pub Ascends : Tests → Type 0
Ascends tests = IsStrictlySortedBy site_cmp (keys_of tests)

less_is_below : (m n : ℕ) → nat_cmp m n ≡ Less → m < n
less_is_below m n e = grind (arith, nat_tests)

pub site_below : (tests : Tests) (i j : ℕ) (d : Entry) → Ascends tests → i < j → j < length tests → site_at tests i d < site_at tests j d
site_below tests i j d ascends lt within =
    let inside : j < length (keys_of tests) = rw (length-map tests (λ e. e.0)) within in
    let e = Less-from_sorted site_cmp (keys_of tests) i j d.0 ascends lt inside in
    let f = rw (get_or-map (λ e. e.0) tests i d d.0 (omega arith), get_or-map (λ e. e.0) tests j d d.0 within) at e in
    less_is_below _ _ f

-- no later site stands before
pub site_upto : (tests : Tests) (i j : ℕ) (d : Entry) → Ascends tests → i ≤ j → j < length tests → site_at tests i d ≤ site_at tests j d
site_upto tests i j d ascends le within = elim (cases_eq i j) [
  | inl same ↦ let e = ap (λ k. site_at tests k d) same in omega arith
  | inr other ↦ let b = site_below tests i j d ascends (omega arith) within in omega arith
]

-- the tests of the first list up to i and of the second up to j are compared: so many stand in both
pub record IsHalfMerged (first second : Tests) (i j common : ℕ) : Type 0 where
  pub before : (p q : ℕ) (d : Entry) → p < i → j ≤ q → q < length second → site_at first p d < site_at second q d
  pub in_range : i ≤ length first
  pub no_more : common ≤ i
  pub each : common ≡ i → (p : ℕ) (d : Entry) → p < i → Contains second (get_or first p d)
  pub only : ((p : ℕ) (d : Entry) → p < i → Contains second (get_or first p d)) → common ≡ i

pub record IsMerged (first second : Tests) (i j common : ℕ) : Type 0 where
  pub left : IsHalfMerged first second i j common
  pub right : IsHalfMerged second first j i common
  pub agree : (p q : ℕ) (d : Entry) → p < i → q < j → site_at first p d ≡ site_at second q d → get_or first p d ≡ get_or second q d

half_swapped : {first second : Tests} {i j common : ℕ} → IsMerged first second i j common → IsMerged second first j i common
half_swapped m = record { left = m.right; right = m.left; agree = λ p q d lp lq e. sym (m.agree q p d lq lp (sym e)) }

module _ (first second : Tests) (first_ascends : Ascends first) (second_ascends : Ascends second) (i j common : ℕ) where
  -- a test whose site is below all that are left on the other side stands nowhere there
  not_there : (d : Entry) → IsMerged first second i j common → i < length first
      → (j < length second → site_at first i d < site_at second j d) → Contains second (get_or first i d) → ⊥
  not_there d m lt below (q, within, e) =
      let site : site_at second q (get_or first i d) ≡ site_at first i d = ap (λ x. x.0.0) e in
      let same : site_at second q d ≡ site_at first i d = ap (λ x. x.0.0) (get_or_default second q d (get_or first i d) within) ∙ site in
      elim (cases_lt q j) [
        | inl early ↦ let b = m.right.before q i d early (omega arith) lt in omega arith
        | inr late ↦
            let b = below (omega arith) in
            let u = site_upto second j q d second_ascends late within in omega arith
      ]

  pub merged_less : IsMerged first second i j common → i < length first → j < length second
      → ((d : Entry) → site_at first i d < site_at second j d) → IsMerged first second (i + 1) j common
  merged_less m li lj below = record {
    left = record {
      before = λ p q d lp lq within. elim (cases_lt p i) [
        | inl early ↦ m.left.before p q d early lq within
        | inr late ↦
            let e : p ≡ i = omega arith in
            let f = ap (λ k. site_at first k d) e in
            let b = below d in
            let u = site_upto second j q d second_ascends lq within in omega arith
      ];
      in_range = omega arith;
      no_more = let n = m.left.no_more in omega arith;
      each = λ e. let n = m.left.no_more in absurd (omega arith);
      only = λ h. absurd (not_there any_entry m li (λ l. below any_entry) (h i any_entry (omega arith)));
    };
    right = record {
      before = λ q p d lq lp within. m.right.before q p d lq (omega arith) within;
      in_range = m.right.in_range;
      no_more = m.right.no_more;
      each = m.right.each;
      only = m.right.only;
    };
    agree = λ p q d lp lq e. elim (cases_lt p i) [
      | inl early ↦ m.agree p q d early lq e
      | inr late ↦
          let f : p ≡ i = omega arith in
          let g = ap (λ k. site_at first k d) f in
          let b = m.right.before q i d lq (omega arith) li in absurd (omega arith)
    ];
  }

  pub merged_equal : IsMerged first second i j common → i < length first → j < length second
      → ((d : Entry) → get_or first i d ≡ get_or second j d) → IsMerged first second (i + 1) (j + 1) (common + 1)
  merged_equal m li lj same = record {
    left = record {
      before = λ p q d lp lq within. elim (cases_lt p i) [
        | inl early ↦ m.left.before p q d early (omega arith) within
        | inr late ↦
            let e : p ≡ i = omega arith in
            let f = ap (λ k. site_at first k d) e in
            let g = ap (λ x. x.0.0) (same d) in
            let b = site_below second j q d second_ascends (omega arith) within in omega arith
      ];
      in_range = omega arith;
      no_more = let n = m.left.no_more in omega arith;
      each = λ e p d lp. elim (cases_lt p i) [
        | inl early ↦ m.left.each (omega arith) p d early
        | inr late ↦
            let f : p ≡ i = omega arith in
            rw (f, same d) (Contains-get_or second j d lj)
      ];
      only = λ h. let e = m.left.only (λ p d lp. h p d (omega arith)) in omega arith;
    };
    right = record {
      before = λ q p d lq lp within. elim (cases_lt q j) [
        | inl early ↦ m.right.before q p d early (omega arith) within
        | inr late ↦
            let e : q ≡ j = omega arith in
            let f = ap (λ k. site_at second k d) e in
            let g = ap (λ x. x.0.0) (same d) in
            let b = site_below first i p d first_ascends (omega arith) within in omega arith
      ];
      in_range = omega arith;
      no_more = let n = m.right.no_more in omega arith;
      each = λ e q d lq. elim (cases_lt q j) [
        | inl early ↦ m.right.each (omega arith) q d early
        | inr late ↦
            let f : q ≡ j = omega arith in
            rw (f, ← same d) (Contains-get_or first i d li)
      ];
      only = λ h. let e = m.right.only (λ q d lq. h q d (omega arith)) in omega arith;
    };
    agree = λ p q d lp lq e. elim (cases_lt p i) [
      | inl early ↦ elim (cases_lt q j) [
        | inl soon ↦ m.agree p q d early soon e
        | inr late ↦
            let f : q ≡ j = omega arith in
            let g = ap (λ k. site_at second k d) f in
            let b = m.left.before p j d early (omega arith) lj in absurd (omega arith)
      ]
      | inr late ↦
          let f : p ≡ i = omega arith in
          let g = ap (λ k. site_at first k d) f in
          elim (cases_lt q j) [
            | inl soon ↦ let b = m.right.before q i d soon (omega arith) li in absurd (omega arith)
            | inr now ↦ let h : q ≡ j = omega arith in rw (f, h) (same d)
          ]
    ];
  }

  -- the end of a list: of each, what stands in the other
  half_end : IsMerged first second i j common → (i ≡ length first) ⊎ (j ≡ length second) → (common ≡ length first) ↔ AreWithin first second
  half_end m (inl all) = (
    λ e site test (k, within, is). rw (← is) (m.left.each (omega arith) k (site, test) (omega arith)),
    λ h. rw (← all) (m.left.only (λ p d lp. h _ _ (Contains-get_or first p d (omega arith)))),
  )
  half_end m (inr all) = elim (cases_eq i (length first)) [
    | inl same ↦ (
      λ e site test (k, within, is). rw (← is) (m.left.each (omega arith) k (site, test) (omega arith)),
      λ h. rw (← same) (m.left.only (λ p d lp. h _ _ (Contains-get_or first p d (omega arith)))),
    )
    | inr less ↦
        let r = m.left.in_range in
        let n = m.left.no_more in (
          λ e. absurd (omega arith),
          λ h. absurd (not_there any_entry m (omega arith) (λ l. absurd (omega arith)) (h _ _ (Contains-get_or first i any_entry (omega arith)))),
        )
  ]

  -- entries of one site were compared, or stand where one of the lists ended
  end_agrees : IsMerged first second i j common → (i ≡ length first) ⊎ (j ≡ length second) → AreApart first second → ⊥
  end_agrees m ended a =
      let (p, inside, is) = a.has_one in
      let (q, within, same) = a.has_other in
      let here : get_or first p any_entry ≡ (a.site, a.one) = get_or_default first p any_entry (a.site, a.one) inside ∙ is in
      let there : get_or second q any_entry ≡ (a.site, a.other) = get_or_default second q any_entry (a.site, a.other) within ∙ same in
      let e = ap (λ x. x.0.0) here in
      let f = ap (λ x. x.0.0) there in
      elim (cases_lt p i) [
        | inl early ↦ elim (cases_lt q j) [
          | inl soon ↦ a.differ (ap (λ x. x.1) (sym here ∙ m.agree p q any_entry early soon (e ∙ sym f) ∙ there))
          | inr late ↦ let b = m.left.before p q any_entry early late within in omega arith
        ]
        | inr later ↦ elim (cases_lt q j) [
          | inl soon ↦ let b = m.right.before q p any_entry soon later inside in omega arith
          | inr late ↦ absurd (elim ended [ inl x ↦ omega arith | inr y ↦ omega arith ])
        ]
      ]

pub merged_end : (first second : Tests) → Ascends first → Ascends second → (i j common : ℕ) → IsMerged first second i j common
    → (i ≡ length first) ⊎ (j ≡ length second) → HaveInCommon first second common
merged_end first second fa sa i j common m ended =
    let turned : (j ≡ length second) ⊎ (i ≡ length first) = elim ended [ inl x ↦ inr x | inr y ↦ inl y ] in
    record {
      agree = end_agrees first second fa sa i j common m ended;
      within_first = let n = m.left.no_more in let r = m.left.in_range in omega arith;
      within_second = let n = m.right.no_more in let r = m.right.in_range in omega arith;
      all_of_first = half_end first second fa sa i j common m ended;
      all_of_second = half_end second first sa fa j i common (half_swapped m) turned;
    }

pub merged_greater : (first second : Tests) → Ascends first → Ascends second → (i j common : ℕ) → IsMerged first second i j common
    → i < length first → j < length second → ((d : Entry) → site_at second j d < site_at first i d) → IsMerged first second i (j + 1) common
merged_greater first second fa sa i j common m li lj above =
    half_swapped (merged_less second first sa fa j i common (half_swapped m) lj li above)
