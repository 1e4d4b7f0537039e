-- Lists of numbers in ascending order, as they grow.
use Rattle.std.proofs.Common.{refl, Vec, Some, set, slice_get, ◌≡◌, ◌<◌, ◌↔◌, ◌+◌, ◌++◌, ◌∷◌, ◌⊎◌, inl, inr, [], ℕ, List, length, get_or, take, sym, ap, subst, arith, ◌∙◌}
use Rattle.std.specs.Prelude.{Contains}
use Rattle.std.proofs.lemmas.Bool.{cases_eq, cases_lt}
use Rattle.std.proofs.lemmas.List.{get_or_append_left, get_or_at, get_or_default, get_or-take, length_push, length-take-le}
use Rattle.std.proofs.lemmas.List.Elements.{Contains-append_left, Contains-push, Contains-push_cases}
use Rattle.std.specs.Global.{Global}
use Rattle.std.proofs.lemmas.Option.{same_Some}
use Rattle.isle_rules.proofs.SetLists.{set_here, set_cases}
use Rattle.isle_blocks.specs.DefinedSets.{ListsNumbers}

-- the numbers with P below a bound
abbrev pub Below : (ℕ → Type 0) → ℕ → ℕ → Type 0
Below P bound i = (i < bound) × P i

pub numbers_none : (P : ℕ → Type 0) → ListsNumbers (Below P 0) []
numbers_none P = record {
  all = λ i. (λ (k, within, is). absurd (omega arith), λ (below, holds). absurd (omega arith));
  ascending = λ k l d less within. absurd (omega arith);
}

-- the next number doesn't have it
pub numbers_skip : (P : ℕ → Type 0) (n : ℕ) (numbers : List ℕ) → ListsNumbers (Below P n) numbers → (P n → ⊥) → ListsNumbers (Below P (n + 1)) numbers
numbers_skip P n numbers lists none = record {
  all = λ i. (
    λ h. let (below, holds) = (lists.all i).0 h in (omega arith, holds),
    λ (below, holds). (lists.all i).1 (elim (cases_eq i n) [
      | inl same ↦ absurd (none (subst P same holds))
      | inr other ↦ (omega arith, holds)
    ]),
  );
  ascending = lists.ascending;
}

-- it has
pub numbers_push : (P : ℕ → Type 0) (n : ℕ) (numbers : List ℕ) → ListsNumbers (Below P n) numbers → P n
    → ListsNumbers (Below P (n + 1)) (numbers ++ n ∷ [])
numbers_push P n numbers lists here = record {
  all = λ i. (
    λ h. elim (Contains-push_cases numbers n i h) [
      | inl old ↦ let (below, holds) = (lists.all i).0 old in (omega arith, holds)
      | inr same ↦ (omega (arith, same), subst P same here)
    ],
    λ (below, holds). elim (cases_eq i n) [
      | inl same ↦ subst (λ (x : ℕ). Contains (numbers ++ n ∷ []) x) (sym same) (Contains-push numbers n)
      | inr other ↦ Contains-append_left numbers (n ∷ []) i ((lists.all i).1 (omega arith, holds))
    ],
  );
  ascending = λ k l d less within.
      let size = length_push numbers n in
      elim (cases_eq l (length numbers)) [
        | inl last ↦
            let kept : get_or (numbers ++ n ∷ []) k d ≡ get_or numbers k d = get_or_append_left numbers _ d k (omega arith) in
            let put : get_or (numbers ++ n ∷ []) l d ≡ n = get_or_at numbers n [] d l (sym last) in
            rw (kept, put) ((lists.all _).0 (k, omega arith, get_or_default numbers k _ d (omega arith))).0
        | inr inside ↦
            let kept : get_or (numbers ++ n ∷ []) k d ≡ get_or numbers k d = get_or_append_left numbers _ d k (omega arith) in
            let also : get_or (numbers ++ n ∷ []) l d ≡ get_or numbers l d = get_or_append_left numbers _ d l (omega arith) in
            rw (kept, also) (lists.ascending k l d less (omega arith))
      ];
}

-- all numbers with P are below the bound
pub numbers_all : (P : ℕ → Type 0) (n : ℕ) (numbers : List ℕ) → ((i : ℕ) → P i → i < n) → ListsNumbers (Below P n) numbers → ListsNumbers P numbers
numbers_all P n numbers bound lists = record {
  all = λ i. (λ h. ((lists.all i).0 h).1, λ holds. (lists.all i).1 (bound i holds, holds));
  ascending = lists.ascending;
}

-- each row lists the numbers below a bound that belong to its place
abbrev pub AreRowsBelow : (ℕ → ℕ → Type 0) → ℕ → List (Vec ℕ Global) → Type 0
AreRowsBelow P n rows = (place : ℕ) (own : Vec ℕ Global) → slice_get rows place ≡ Some own → ListsNumbers (Below (P place) n) own.items

-- the next number belongs to one place
pub rows_next : (P : ℕ → ℕ → Type 0) (n : ℕ) (rows : List (Vec ℕ Global)) (home : ℕ) (old new : Vec ℕ Global) → slice_get rows home ≡ Some old
    → new.items ≡ old.items ++ n ∷ [] → P home n → ((place : ℕ) → P place n → place ≡ home) → AreRowsBelow P n rows
    → AreRowsBelow P (n + 1) (set rows home new)
rows_next P n rows home old new there pushed here only all place own at = elim (cases_eq place home) [
  | inl same ↦
      let own_is : new ≡ own = same_Some new own (sym (set_here rows home new old there) ∙ subst
      (λ (x : ℕ). slice_get (set rows home new) x ≡ Some own) same at) in
      subst (λ (v : Vec ℕ Global). ListsNumbers (Below (P place) (n + 1)) v.items) own_is
      (subst (λ (l : List ℕ). ListsNumbers (Below (P place) (n + 1)) l) (sym pushed)
      (numbers_push (P place) n old.items (all place old (subst (λ (x : ℕ). slice_get rows x ≡ Some old) (sym same) there))
      (subst (λ (x : ℕ). P x n) (sym same) here)))
  | inr other ↦
      numbers_skip (P place) n own.items
      (all place own (elim (set_cases rows home place new own at) [ inl (e, f) ↦ absurd (other (sym e)) | inr kept ↦ kept ]))
      (λ h. other (only place h))
]

-- a number that is greater than all others
pub numbers_put : (P Q : ℕ → Type 0) (n : ℕ) (numbers : List ℕ) → ListsNumbers P numbers → ((i : ℕ) → P i → i < n) → ((i : ℕ) → P i → Q i) → Q n
    → ((i : ℕ) → Q i → P i ⊎ (i ≡ n)) → ListsNumbers Q (numbers ++ n ∷ [])
numbers_put P Q n numbers lists below more here cases =
    let before : ListsNumbers (Below Q n) numbers = record {
      all = λ i. (
        λ h. let holds = (lists.all i).0 h in (below i holds, more i holds),
        λ (less, holds). (lists.all i).1 (elim (cases i holds) [ inl old ↦ old | inr e ↦ absurd (omega arith) ]),
      );
      ascending = lists.ascending;
    } in
    let pushed = numbers_push Q n numbers before here in
    record {
      all = λ i. (
        λ h. ((pushed.all i).0 h).1,
        λ holds. (pushed.all i).1 (elim (cases i holds) [ inl old ↦ let less = below i old in omega arith | inr e ↦ omega arith ], holds),
      );
      ascending = pushed.ascending;
    }

-- the same numbers by another name
pub numbers_same : (P Q : ℕ → Type 0) (numbers : List ℕ) → ((i : ℕ) → P i → Q i) → ((i : ℕ) → Q i → P i) → ListsNumbers P numbers
    → ListsNumbers Q numbers
numbers_same P Q numbers f g lists = record {
  all = λ i. (λ h. f i ((lists.all i).0 h), λ h. (lists.all i).1 (g i h));
  ascending = lists.ascending;
}

-- the numbers before one of a list are the smaller ones with P
pub listed_before : (P : ℕ → Type 0) (numbers : List ℕ) (k n : ℕ) → ListsNumbers P numbers → k < length numbers → get_or numbers k n ≡ n → (i : ℕ)
    → Contains (take k numbers) i ↔ ((i < n) × P i)
listed_before P numbers k n lists here is i =
    let at : get_or numbers k i ≡ n = get_or_default numbers k i n here ∙ is in (
      λ (j, within, e).
          let size = length-take-le k numbers (omega arith) in
          let before : j < k = omega arith in
          let there : get_or numbers j i ≡ i = sym (get_or-take k numbers j i before) ∙ e in
          let up = lists.ascending j k i before here in
          (omega arith, (lists.all i).0 (j, omega arith, there)),
      λ (less, holds).
          let (j, within, there) = (lists.all i).1 holds in
          let before : j < k = elim (cases_lt j k) [
            | inl low ↦ low
            | inr high ↦ elim (cases_eq j k) [
              | inl same ↦ let also : get_or numbers j i ≡ get_or numbers k i = ap (λ m. get_or numbers m i) same in absurd (omega arith)
              | inr other ↦ let up = lists.ascending k j i (omega arith) within in absurd (omega arith)
            ]
          ] in
          let size = length-take-le k numbers (omega arith) in
          (j, omega arith, get_or-take k numbers j i before ∙ there),
    )

-- each number before the last is smaller
abbrev pub Ascends : List ℕ → Type 0
Ascends numbers = (k l d : ℕ) → k < l → l < length numbers → get_or numbers k d < get_or numbers l d

pub ascends_before : (numbers : List ℕ) (n : ℕ) → Ascends (numbers ++ n ∷ []) → Ascends numbers
ascends_before numbers n up = λ k l d less within.
    let size = length_push numbers n in
    let kept : get_or (numbers ++ n ∷ []) k d ≡ get_or numbers k d = get_or_append_left numbers _ d k (omega arith) in
    let also : get_or (numbers ++ n ∷ []) l d ≡ get_or numbers l d = get_or_append_left numbers _ d l (omega arith) in
    let h = up k l d less (omega arith) in omega (arith, kept, also, h)

pub below_last : (numbers : List ℕ) (n : ℕ) → Ascends (numbers ++ n ∷ []) → (i : ℕ) → Contains numbers i → i < n
below_last numbers n up i (k, within, is) =
    let size = length_push numbers n in
    let kept : get_or (numbers ++ n ∷ []) k i ≡ get_or numbers k i = get_or_append_left numbers _ i k within in
    let put : get_or (numbers ++ n ∷ []) (length numbers) i ≡ n = get_or_at numbers n [] i (length numbers) refl in
    let h = up k (length numbers) i within (omega arith) in omega (arith, kept, put, is, h)
