-- Marks that spread over lists, step by step.
use Rattle.std.proofs.Common.{◌≡◌, ◌<◌, ◌+◌, ◌⊎◌, ◌↔◌, inl, inr, ℕ, Bool, true, false, List, [], ◌∷◌, ◌++◌, Some, Vec, length, set, get_or}
use Rattle.std.proofs.Common.{slice_get, refl, sym, ◌∙◌, ap, subst, arith}
use Rattle.std.specs.Prelude.{Contains, not, cond}
use Rattle.std.specs.Global.{Global}
use Rattle.std.proofs.lemmas.Bool.{cases_eq, cases_lt}
use Rattle.std.proofs.lemmas.List.{length-set, length_push, get_or_past, get_or-set_same, get_or-set_other}
use Rattle.std.proofs.lemmas.List.Sums.{sum_by-set}
use Rattle.std.proofs.lemmas.List.Elements.{Contains-append_left, Contains-push, Contains-push_cases}
use Rattle.std.proofs.lemmas.Option.{same_Some, slice_get_within}
use Rattle.isle_blocks.specs.Inside.Building.Contents.{Marked}
use Rattle.isle_blocks.proofs.Building.Walking.{cons_cases, cons_here, cons_there, none_there}
use Rattle.isle_program.specs.Inside.Facts.Spreading.{IsListedAt, SpreadsTo, is_marked, is_listed, IsSpread, MarksAndLists, unmarked}

-- a mark that is set
pub set_marked : (marks : List Bool) (n : ℕ) → n < length marks → Marked (set marks n true) n
set_marked marks n within = get_or-set_same marks n true false within

pub set_cases : (marks : List Bool) (n k : ℕ) → Marked (set marks n true) k → Marked marks k ⊎ (n ≡ k)
set_cases marks n k marked = elim (cases_eq k n) [
  | inl same ↦ inr (sym same)
  | inr other ↦ inl (sym (get_or-set_other marks n k true false other) ∙ marked)
]

pub set_kept : (marks : List Bool) (n k : ℕ) → n < length marks → Marked marks k → Marked (set marks n true) k
set_kept marks n k within marked = elim (cases_eq k n) [
  | inl same ↦ subst (λ (x : ℕ). Marked (set marks n true) x) (sym same) (set_marked marks n within)
  | inr other ↦ get_or-set_other marks n k true false other ∙ marked
]

-- one fewer is not marked
pub set_fewer : (marks : List Bool) (n : ℕ) → n < length marks → get_or marks n false ≡ false → unmarked (set marks n true) + 1 ≡ unmarked marks
set_fewer marks n within free =
    let e = sum_by-set (λ b. cond (not b) 1 0) marks n true false within in
    let one : ◌≡◌ {A = ℕ} (cond (not (get_or marks n false)) 1 0) 1 = ap (λ b. cond (not b) 1 0) free in omega (arith, e, one)

pub marks_one : (n : ℕ) (marks : List Bool) (old : List ℕ) → n < length marks → get_or marks n false ≡ false
    → MarksAndLists (n ∷ []) marks (set marks n true) old (old ++ n ∷ [])
marks_one n marks old within free = record {
  fits = length-set marks n true;
  kept = λ k h. set_kept marks n k within h;
  from = λ k h. elim (set_cases marks n k h) [ inl m ↦ inl m | inr e ↦ inr (subst (λ (x : ℕ). Contains (n ∷ []) x) e (cons_here n [])) ];
  all = λ k h less. elim (cons_cases n [] k h) [
    | inl e ↦ subst (λ (x : ℕ). Marked (set marks n true) x) e (set_marked marks n within)
    | inr never ↦ none_there k never
  ];
  old_listed = λ k h. Contains-append_left old (n ∷ []) k h;
  new_listed = λ k h. elim (set_cases marks n k h) [
    | inl m ↦ inl m
    | inr e ↦ inr (subst (λ (x : ℕ). Contains (old ++ n ∷ []) x) e (Contains-push old n))
  ];
  are_marked = λ k h. elim (Contains-push_cases old n k h) [
    | inl o ↦ inl o
    | inr e ↦ inr (subst (λ (x : ℕ). Marked (set marks n true) x) e (set_marked marks n within))
  ];
  in_all = let fewer = set_fewer marks n within free in let more = length_push old n in omega arith;
}

pub marks_none : (marks : List Bool) (old : List ℕ) → MarksAndLists [] marks marks old old
marks_none marks old = record {
  fits = refl;
  kept = λ k h. h;
  from = λ k h. inl h;
  all = λ k h less. none_there k h;
  old_listed = λ k h. h;
  new_listed = λ k h. inl h;
  are_marked = λ k h. inl h;
  in_all = refl;
}

pub marks_cons : (x : ℕ) (xs : List ℕ) (a b c : List Bool) (l m n : List ℕ) → MarksAndLists (x ∷ []) a b l m → MarksAndLists xs b c m n
    → MarksAndLists (x ∷ xs) a c l n
marks_cons x xs a b c l m n one more = record {
  fits = more.fits ∙ one.fits;
  kept = λ k h. more.kept k (one.kept k h);
  from = λ k h. elim (more.from k h) [
    | inl h ↦ elim (one.from k h) [
      | inl g ↦ inl g
      | inr g ↦ elim (cons_cases x [] k g) [
        | inl e ↦ inr (subst (λ (y : ℕ). Contains (x ∷ xs) y) e (cons_here x xs))
        | inr never ↦ none_there k never
      ]
    ]
    | inr g ↦ inr (cons_there x xs k g)
  ];
  all = λ k h less. elim (cons_cases x xs k h) [
    | inl e ↦ more.kept k (one.all k (subst (λ (y : ℕ). Contains (x ∷ []) y) e (cons_here x [])) less)
    | inr g ↦ more.all k g (let fits = one.fits in omega arith)
  ];
  old_listed = λ k h. more.old_listed k (one.old_listed k h);
  new_listed = λ k h. elim (more.new_listed k h) [
    | inl g ↦ elim (one.new_listed k g) [ inl f ↦ inl f | inr f ↦ inr (more.old_listed k f) ]
    | inr g ↦ inr g
  ];
  are_marked = λ k h. elim (more.are_marked k h) [
    | inl g ↦ elim (one.are_marked k g) [ inl f ↦ inl f | inr f ↦ inr (more.kept k f) ]
    | inr g ↦ inr g
  ];
  in_all = more.in_all ∙ one.in_all;
}

-- marks that spread from marked numbers of which some are left
pub record IsSpreading (lists : List (Vec ℕ Global)) (marks now : List Bool) (left : List ℕ) : Type 0 where
  pub fits : length now ≡ length marks
  pub reached : (n : ℕ) → Marked now n → SpreadsTo lists marks n
  pub kept : (n : ℕ) → Marked marks n → Marked now n
  pub pending : (n : ℕ) → Contains left n → Marked now n
  pub done : (n : ℕ) → Marked now n → Contains left n ⊎ ((m : ℕ) → IsListedAt lists n m → m < length marks → Marked now m)

pub spreading_first : (lists : List (Vec ℕ Global)) (marks : List Bool) (left : List ℕ) → ((n : ℕ) → Contains left n ↔ Marked marks n)
    → IsSpreading lists marks marks left
spreading_first lists marks left all = record {
  fits = refl;
  reached = λ n h. is_marked h;
  kept = λ n h. h;
  pending = λ n h. (all n).0 h;
  done = λ n h. inl ((all n).1 h);
}

module _ (lists : List (Vec ℕ Global)) (marks : List Bool) where
  pub spreading_next : (now new : List Bool) (x : ℕ) (own : Vec ℕ Global) (left listed : List ℕ) → slice_get lists x ≡ Some own
      → IsSpreading lists marks now (left ++ x ∷ []) → MarksAndLists own.items now new left listed → IsSpreading lists marks new listed
  spreading_next now new x own left listed at before more = record {
    fits = more.fits ∙ before.fits;
    reached = λ n h. elim (more.from n h) [
      | inl g ↦ before.reached n g
      | inr g ↦ is_listed (before.reached x (before.pending x (Contains-push left x))) (own, at, g)
    ];
    kept = λ n h. more.kept n (before.kept n h);
    pending = λ n h. elim (more.are_marked n h) [
      | inl g ↦ more.kept n (before.pending n (Contains-append_left left (x ∷ []) n g))
      | inr g ↦ g
    ];
    done = λ n h. elim (more.new_listed n h) [
      | inl g ↦ elim (before.done n g) [
        | inl f ↦ elim (Contains-push_cases left x n f) [
          | inl e ↦ inl (more.old_listed n e)
          | inr e ↦ inr (λ m (other, there, among) less.
              let same : other ≡ own = same_Some other own (sym there ∙ ap (slice_get lists) (sym e) ∙ at) in
              more.all m (subst (λ (v : Vec ℕ Global). Contains v.items m) same among) (let fits = before.fits in omega arith))
        ]
        | inr f ↦ inr (λ m there less. more.kept m (f m there less))
      ]
      | inr g ↦ inl g
    ];
  }

  all_spread : (now : List Bool) → length lists ≡ length marks → IsSpreading lists marks now [] → (n : ℕ) → n < length marks → SpreadsTo lists marks n
      → Marked now n
  all_spread now fits last n within (is_marked h) = last.kept n h
  all_spread now fits last m within (is_listed {n} from there) =
      let inside = slice_get_within lists n there.0 there.1 in
      elim (last.done n (all_spread now fits last n (omega arith) from)) [
        | inl never ↦ none_there n never
        | inr all ↦ all m there within
      ]

  pub spreading_last : (now : List Bool) → length lists ≡ length marks → IsSpreading lists marks now [] → IsSpread lists marks now
  spreading_last now fits last = record { fits = last.fits; marked = last.reached; all = all_spread now fits last }

-- what is marked is in range
pub marked_within : (marks : List Bool) (n : ℕ) → Marked marks n → n < length marks
marked_within marks n marked = elim (cases_lt n (length marks)) [
  | inl within ↦ within
  | inr past ↦ let none = get_or_past marks n false past in absurd cc
]

pub no_items : (xs : List ℕ) → length xs ≡ 0 → xs ≡ []
no_items [] none = refl
no_items (x ∷ xs) none = absurd (omega arith)
