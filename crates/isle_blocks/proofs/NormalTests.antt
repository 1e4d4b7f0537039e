-- The tests of a closed rule, site after site.
use Rattle.std.proofs.Common.{◌≡◌, ◌<◌, ◌+◌, ◌⊎◌, ◌↔◌, inl, inr, ℕ, zero, suc, List, [], ◌∷◌, length, get_or, Option, Some, None, refl, sym, ◌∙◌, ap, subst, arith}
use Rattle.std.proofs.Common.{Ordering, Less, Equal, Greater, slice_get}
use Rattle.std.specs.Prelude.{Contains}
use Rattle.std.specs.BTreeMap.{insert_entry}
use Rattle.std.specs.Ordering.{match_ordering, MatchOrdering}
use Rattle.std.specs.Cmp.{ranks}
use Rattle.std.proofs.lemmas.Bool.{cases_lt}
use Rattle.std.proofs.lemmas.Option.{same_Some}
use Rattle.std.proofs.lemmas.List.Elements.{Contains-append_left, Contains-append_right, Contains-append_cases}
use Rattle.isle_types.specs.Names.{AreDistinct}
use Rattle.isle_blocks.specs.declared.ids.BindingId.{BindingId}
use Rattle.isle_blocks.specs.declared.constraint.Constraint.{Constraint}
use Rattle.isle_blocks.specs.Rules.{site_cmp}
use Rattle.isle_blocks.specs.Inside.ClosureStates.{HasOwn}
use Rattle.isle_blocks.specs.Inside.NormalRules.{AreTestsOf}
use Rattle.isle_blocks.proofs.Closure.Pairs.{own_in, pair_path}

-- the first, or one of the others
only_first : {X : Type 0} (x y : X) → Contains (x ∷ []) y → x ≡ y
only_first x y (zero, within, is) = is
only_first x y (suc k, within, is) = absurd (omega arith)

cons_cases : {X : Type 0} (x : X) (xs : List X) (y : X) → Contains (x ∷ xs) y → (x ≡ y) ⊎ Contains xs y
cons_cases x xs y h = elim (Contains-append_cases (x ∷ []) xs y h) [ inl first ↦ inl (only_first x y first) | inr rest ↦ inr rest ]

cons_later : {X : Type 0} (x : X) (xs : List X) (y : X) → Contains xs y → Contains (x ∷ xs) y
cons_later x xs y h = Contains-append_right (x ∷ []) xs y h

cons_first : {X : Type 0} (x : X) (xs : List X) → Contains (x ∷ xs) x
cons_first x xs = Contains-append_left (x ∷ []) xs x (0, omega arith, refl)

module _ (key : BindingId) (value : Constraint) where
  -- no entry has the key
  abbrev pub IsFresh : List (BindingId × Constraint) → Type 0
  IsFresh es = (e : BindingId × Constraint) → Contains es e → key ≡ e.0 → ⊥

  abbrev WasPut : List (BindingId × Constraint) → BindingId × Constraint → Type 0
  WasPut es d = Contains es d ⊎ (◌≡◌ {A = BindingId × Constraint} (key, value) d)

  put_later : (e : BindingId × Constraint) (es : List (BindingId × Constraint)) (d : BindingId × Constraint) → WasPut es d → WasPut (e ∷ es) d
  put_later e es d h = elim h [ inl old ↦ inl (cons_later e es d old) | inr new ↦ inr new ]

  put_by : (e : BindingId × Constraint) (es : List (BindingId × Constraint)) (d : BindingId × Constraint) (r : Ordering) → site_cmp key e.0 ≡ r
      → IsFresh (e ∷ es) → Contains (insert_entry site_cmp es key value) d ↔ WasPut es d
      → Contains (match_ordering r ((key, value) ∷ e ∷ es) ((e.0, value) ∷ es) (e ∷ insert_entry site_cmp es key value)) d ↔ WasPut (e ∷ es) d
  put_by e es d Less is fresh rest = (
    λ h. elim (cons_cases (key, value) (e ∷ es) d h) [ inl same ↦ inr same | inr old ↦ inl old ],
    λ h. elim h [
      | inl old ↦ cons_later (key, value) (e ∷ es) d old
      | inr same ↦ subst (λ (x : BindingId × Constraint). Contains ((key, value) ∷ e ∷ es) x) same (cons_first (key, value) (e ∷ es))
    ],
  )
  put_by e es d Equal is fresh rest =
      let same : key.0 ≡ e.0.0 = subst (λ (r : Ordering). MatchOrdering r (key.0 < e.0.0) (key.0 ≡ e.0.0) (e.0.0 < key.0)) is (ranks key.0 e.0.0) in
      absurd (fresh e (cons_first e es) (λ i. record { 0 = same i }))
  put_by e es d Greater is fresh rest = (
    λ h. elim (cons_cases e (insert_entry site_cmp es key value) d h) [
      | inl same ↦ inl (subst (λ (x : BindingId × Constraint). Contains (e ∷ es) x) same (cons_first e es))
      | inr later ↦ put_later e es d (rest.0 later)
    ],
    λ h. elim h [
      | inl old ↦ elim (cons_cases e es d old) [
        | inl same ↦ subst (λ (x : BindingId × Constraint). Contains (e ∷ insert_entry site_cmp es key value) x) same
            (cons_first e (insert_entry site_cmp es key value))
        | inr later ↦ cons_later e (insert_entry site_cmp es key value) d (rest.1 (inl later))
      ]
      | inr same ↦ cons_later e (insert_entry site_cmp es key value) d (rest.1 (inr same))
    ],
  )

  -- a new key is put among the others
  pub inserted_fresh : (es : List (BindingId × Constraint)) → IsFresh es → (d : BindingId × Constraint)
      → Contains (insert_entry site_cmp es key value) d ↔ (Contains es d ⊎ (◌≡◌ {A = BindingId × Constraint} (key, value) d))
  inserted_fresh [] fresh d = (
    λ h. inr (only_first (key, value) d h),
    λ h. elim h [
      | inl none ↦ absurd (let l = none.1 in omega arith)
      | inr same ↦ subst (λ (x : BindingId × Constraint). Contains ((key, value) ∷ []) x) same (0, omega arith, refl)
    ],
  )
  inserted_fresh (e ∷ es) fresh d =
      put_by e es d (site_cmp key e.0) refl fresh (inserted_fresh es (λ x h. fresh x (cons_later e es x h)) d)

-- the tests of the sites below a place
pub record AreTestsBelow (numbers : List BindingId) (each : List (Option Constraint)) (n : ℕ) (tests : List (BindingId × Constraint)) : Type 0 where
  pub own : (id : BindingId) (test : Constraint) → Contains tests (id, test) → (k : ℕ) × (k < n) × (slice_get numbers k ≡ Some id)
      × HasOwn each k test
  pub all : (k : ℕ) (id : BindingId) (test : Constraint) → k < n → slice_get numbers k ≡ Some id → HasOwn each k test → Contains tests (id, test)

pub tests_all : (numbers : List BindingId) (each : List (Option Constraint)) (tests : List (BindingId × Constraint))
    → AreTestsBelow numbers each (length each) tests → AreTestsOf numbers each tests
tests_all numbers each tests are = λ id test. (
  λ h. let (k, below, at, has) = are.own id test h in (k, at, has),
  λ (k, at, has). are.all k id test (own_in each k test has) at has,
)

-- The tests so far, and the next site.
module _ (numbers : List BindingId) (each : List (Option Constraint)) (n : ℕ) (tests : List (BindingId × Constraint))
    (are : AreTestsBelow numbers each n tests) where
  -- it has no test
  pub tests_skip : get_or each n None ≡ None → AreTestsBelow numbers each (n + 1) tests
  tests_skip free = record {
    own = λ id test h. let (k, below, at, has) = are.own id test h in (k, omega (arith, below), at, has);
    all = λ k id test l at h. elim (cases_lt k n) [
      | inl less ↦ are.all k id test less at h
      | inr more ↦
          let same : k ≡ n = omega arith in
          let gone : get_or each k None ≡ None = ap (λ (j : ℕ). get_or each j None) same ∙ free in absurd cc
    ];
  }

  -- its test is put in
  module _ (once : AreDistinct numbers) (new : List (BindingId × Constraint)) (id : BindingId) (test : Constraint)
      (at : slice_get numbers n ≡ Some id)
      (has : HasOwn each n test) (is : new ≡ insert_entry site_cmp tests id test) where
    fresh : (e : BindingId × Constraint) → Contains tests e → id ≡ e.0 → ⊥
    fresh e h same =
        let (k, below, there, other) = are.own e.0 e.1 h in
        let one : k ≡ n = once id k n (there ∙ ap Some (sym same)) at in omega (arith, below, one)

    put : (d : BindingId × Constraint) → Contains new d ↔ (Contains tests d ⊎ (◌≡◌ {A = BindingId × Constraint} (id, test) d))
    put d = subst (λ (l : List (BindingId × Constraint)). Contains l d ↔ (Contains tests d ⊎ (◌≡◌ {A = BindingId × Constraint} (id, test) d)))
        (sym is)
        (inserted_fresh id test tests fresh d)

    last_own : (other : BindingId) (c : Constraint) → ◌≡◌ {A = BindingId × Constraint} (id, test) (other, c)
        → (k : ℕ) × (k < n + 1) × (slice_get numbers k ≡ Some other) × HasOwn each k c
    last_own other c q =
        let s : id ≡ other = ap (λ (p : BindingId × Constraint). p.0) q in
        let t : test ≡ c = ap (λ (p : BindingId × Constraint). p.1) q in
        (n, omega arith, at ∙ ap Some s, has ∙ ap Some t)

    last_in : (k : ℕ) (other : BindingId) (c : Constraint) → k ≡ n → slice_get numbers k ≡ Some other → HasOwn each k c
        → ◌≡◌ {A = BindingId × Constraint} (id, test) (other, c)
    last_in k other c same there h =
        let s : id ≡ other = same_Some id other (sym at ∙ ap (λ (j : ℕ). slice_get numbers j) (sym same) ∙ there) in
        let t : test ≡ c = same_Some _ _ (sym has ∙ ap (λ (j : ℕ). get_or each j None) (sym same) ∙ h) in
        pair_path id other test c s t

    pub tests_more : AreTestsBelow numbers each (n + 1) new
    tests_more = record {
      own = λ other c h. elim ((put (other, c)).0 h) [
        | inl old ↦ let (k, below, there, o) = are.own other c old in (k, omega (arith, below), there, o)
        | inr q ↦ last_own other c q
      ];
      all = λ k other c l there h. (put (other, c)).1 (elim (cases_lt k n) [
        | inl less ↦ inl (are.all k other c less there h)
        | inr more ↦ inr (last_in k other c (omega arith) there h)
      ]);
    }
