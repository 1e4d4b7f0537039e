-- Sites that are still to be looked at, and sites that wait for an unmarked child, while sites are marked after their children.
use Rattle.std.proofs.Common.{◌≡◌, ◌≢◌, ◌<◌, ◌+◌, ◌*◌, ◌++◌, ◌∷◌, ◌⊎◌, inl, inr, ℕ, zero, suc, List, [], length, set, get_or, Bool, true, false, refl, sym, ◌∙◌, ap, subst, arith}
use Rattle.std.specs.Prelude.{Contains, Option, replicate}
use Rattle.std.specs.List.{sum_by}
use Rattle.std.proofs.lemmas.List.{get_or-set_same, get_or-set_other, get_or_default, length-set, length-append}
use Rattle.std.proofs.lemmas.List.Sums.{sum_by-set}
use Rattle.std.proofs.lemmas.List.Elements.{Contains-append_left, Contains-append_right, Contains-append_cases}
use Rattle.std.proofs.lemmas.Bool.{cases_eq, false≢true}
use Rattle.isle_blocks.specs.declared.binding.Binding.{Binding}
use Rattle.isle_blocks.specs.declared.constraint.Constraint.{Constraint}
use Rattle.std.proofs.lemmas.Option.{slice_get_within}
use Rattle.isle_blocks.specs.Inside.ClosureFields.{field_binding}
use Rattle.isle_blocks.specs.Inside.ClosureStates.{AreClasses, IsChildAt, IsUnmarkedChild, ChildrenAreMarked, is_marked}
use Rattle.isle_blocks.proofs.Closure.Pairs.{last_of, front_of, split_of}
use Rattle.isle_blocks.proofs.Closure.Loops.{Peeled, peeled_more, peeled_none, either, mark_same, mark_keeps, mark_before}

-- the list of a site
abbrev pub list_of : List (List ℕ) → ℕ → List ℕ
list_of lists k = get_or lists k []

-- the steps that are left: each takes a site off those to be looked at, and either it waits then, or there is one less
abbrev pub sites_left : List (List ℕ) → List ℕ → ℕ
sites_left waiting pending = length pending + sum_by (λ (list : List ℕ). length list) waiting

unfoldable pub work_left : List (List ℕ) → List ℕ → ℕ
work_left waiting pending = sites_left waiting pending * sites_left waiting pending + length pending

abbrev waits : List (List ℕ) → ℕ → ℕ → List (List ℕ)
waits waiting k r = set waiting k (list_of waiting k ++ r ∷ [])

pushed_long : (xs : List ℕ) (x : ℕ) → length (xs ++ x ∷ []) ≡ length xs + 1
pushed_long xs x = length-append xs (x ∷ [])

pub wait_less : (waiting : List (List ℕ)) (pending rest : List ℕ) (k r : ℕ) → k < length waiting → pending ≡ rest ++ r ∷ []
    → work_left (waits waiting k r) rest < work_left waiting pending
unfolding work_left
wait_less waiting pending rest k r l e =
    let p : length pending ≡ length rest + 1 = ap length e ∙ pushed_long rest r in
    let more : length (list_of waiting k ++ r ∷ []) ≡ length (list_of waiting k) + 1 = pushed_long (list_of waiting k) r in
    let s = sum_by-set (λ (list : List ℕ). length list) waiting k (list_of waiting k ++ r ∷ []) [] l in
    let same : sites_left (waits waiting k r) rest ≡ sites_left waiting pending = omega arith in
    let square : sites_left (waits waiting k r) rest * sites_left (waits waiting k r) rest ≡ sites_left waiting pending * sites_left waiting pending =
    ap (λ n. n * n) same in
    omega arith

square_less : (a b c d : ℕ) → a + 1 ≡ b → c < b → a * a + c < b * b + d
square_less a b c d e l = let s : (a + 1) * (a + 1) ≡ b * b = ap (λ n. n * n) e in omega arith

pub mark_less : (waiting : List (List ℕ)) (pending rest : List ℕ) (r : ℕ) → r < length waiting → pending ≡ rest ++ r ∷ []
    → work_left (set waiting r []) (rest ++ list_of waiting r) < work_left waiting pending
unfolding work_left
mark_less waiting pending rest r l e =
    let p : length pending ≡ length rest + 1 = ap length e ∙ pushed_long rest r in
    let q : length (rest ++ list_of waiting r) ≡ length rest + length (list_of waiting r) = length-append rest (list_of waiting r) in
    let s = sum_by-set (λ (list : List ℕ). length list) waiting r [] [] l in
    let one : sites_left (set waiting r []) (rest ++ list_of waiting r) + 1 ≡ sites_left waiting pending = omega arith in
    square_less (sites_left (set waiting r []) (rest ++ list_of waiting r)) (sites_left waiting pending) (length (rest ++ list_of waiting r))
    (length pending)
    one (omega arith)

module _ (table : List Binding) (own : List (Option Constraint)) (class : List ℕ) where
  -- a site waits for a child that isn't marked
  pub record Waits (marks : List Bool) (waiting : List (List ℕ)) (r : ℕ) : Type 0 where
    pub child : ℕ
    pub listed : Contains (list_of waiting child) r
    pub is_child : IsUnmarkedChild table own class marks r child

  -- each site is marked after its children, is to be looked at, or waits
  pub record Marking (marks : List Bool) (waiting : List (List ℕ)) (pending : List ℕ) : Type 0 where
    pub fits : length marks ≡ length table
    pub lists : length waiting ≡ length table
    pub peeled : Peeled table own class marks
    pub within : (r : ℕ) → Contains pending r → r < length table
    pub waiters : (k r : ℕ) → Contains (list_of waiting k) r → r < length table
    pub left : (r : ℕ) → r < length table → is_marked marks r ≡ false → Contains pending r ⊎ Waits marks waiting r

  module _ (marks : List Bool) (waiting : List (List ℕ)) (pending rest : List ℕ) (r : ℕ) (e : pending ≡ rest ++ r ∷ [])
      (m : Marking marks waiting pending) where
    pub next_in : r < length table
    next_in = m.within r (last_of pending rest r e)

    pub wait_more : (k : ℕ) → k < length table → IsUnmarkedChild table own class marks r k → Marking marks (waits waiting k r) rest
    wait_more k k_in child =
        let l : k < length waiting = let f = m.lists in omega arith in
        let same : list_of (waits waiting k r) k ≡ list_of waiting k ++ r ∷ [] = get_or-set_same waiting k (list_of waiting k ++ r ∷ []) [] l in
        record {
          fits = m.fits;
          lists = length-set waiting k (list_of waiting k ++ r ∷ []) ∙ m.lists;
          peeled = m.peeled;
          within = λ s h. m.within s (front_of pending rest r s e h);
          waiters = λ j s h. elim (cases_eq j k) [
            | inl q ↦
                let h' = subst (λ (z : ℕ). Contains (list_of (waits waiting k r) z) s) q h in
                elim (split_of (list_of (waits waiting k r) k) (list_of waiting k) r s same h') [
                  | inl old ↦ m.waiters k s old
                  | inr new ↦ subst (λ (z : ℕ). z < length table) new next_in
                ]
            | inr n ↦ m.waiters j s (subst (λ (l : List ℕ). Contains l s) (get_or-set_other waiting k j (list_of waiting k ++ r ∷ []) [] n) h)
          ];
          left = λ s s_in u. elim (m.left s s_in u) [
            | inl h ↦ elim (split_of pending rest r s e h) [
              | inl old ↦ inl old
              | inr new ↦ inr (record {
                child = k;
                listed = subst (λ (z : ℕ). Contains (list_of (waits waiting k r) k) z) new
                    (last_of (list_of (waits waiting k r) k) (list_of waiting k) r same);
                is_child = subst (λ (z : ℕ). IsUnmarkedChild table own class marks z k) new child;
              })
            ]
            | inr w ↦ inr (record {
              child = w.child;
              listed = elim (cases_eq w.child k) [
                | inl q ↦ subst (λ (z : ℕ). Contains (list_of (waits waiting k r) z) s) (sym q)
                    (front_of (list_of (waits waiting k r) k) (list_of waiting k) r s same
                    (subst (λ (z : ℕ). Contains (list_of waiting z) s) q w.listed))
                | inr n ↦ subst (λ (l : List ℕ). Contains l s) (sym (get_or-set_other waiting k w.child (list_of waiting k ++ r ∷ []) [] n)) w.listed
              ];
              is_child = w.is_child;
            })
          ];
        }

    marks_in : r < length marks
    marks_in = let f = m.fits in let n = next_in in omega arith

    -- what is marked twice is marked
    again : is_marked marks r ≡ true → Peeled table own class (set marks r true)
    again t =
        let p = m.peeled in
        let before : (s : ℕ) → is_marked (set marks r true) s ≡ true → is_marked marks s ≡ true =
        λ s h. elim (mark_before marks r s h) [ inl q ↦ ap (is_marked marks) q ∙ t | inr b ↦ b ] in
        record {
          rank = p.rank;
          top = p.top;
          low = p.low;
          marked = λ s g k h c. mark_keeps marks r k marks_in (p.marked s g k (before s h) c);
          falls = λ s g k h c. p.falls s g k (before s h) c;
        }

    unmarked_before : (s : ℕ) → is_marked (set marks r true) s ≡ false → (s ≢ r) × (is_marked marks s ≡ false)
    unmarked_before s u = elim (cases_eq s r) [
      | inl q ↦ absurd (false≢true (sym u ∙ ap (is_marked (set marks r true)) q ∙ mark_same marks r marks_in))
      | inr n ↦ (n, sym (get_or-set_other marks r s true false n) ∙ u)
    ]

    pub mark_more : ChildrenAreMarked table own class marks r → Marking (set marks r true) (set waiting r []) (rest ++ list_of waiting r)
    mark_more children = record {
      fits = length-set marks r true ∙ m.fits;
      lists = length-set waiting r [] ∙ m.lists;
      peeled = elim (either (is_marked marks r)) [
        | inl t ↦ again t
        | inr f ↦ peeled_more table own class marks r marks_in f children m.peeled
      ];
      within = λ s h. elim (Contains-append_cases rest (list_of waiting r) s h) [
        | inl old ↦ m.within s (front_of pending rest r s e old)
        | inr new ↦ m.waiters r s new
      ];
      waiters = λ j s h. elim (cases_eq j r) [
        | inl q ↦
            let l : r < length waiting = let f = m.lists in let n = next_in in omega arith in
            let none : list_of (set waiting r []) j ≡ [] = ap (list_of (set waiting r [])) q ∙ get_or-set_same waiting r [] [] l in
            let (i, i_in, at) = subst (λ (l : List ℕ). Contains l s) none h in absurd (omega arith)
        | inr n ↦ m.waiters j s (subst (λ (l : List ℕ). Contains l s) (get_or-set_other waiting r j [] [] n) h)
      ];
      left = λ s s_in u.
          let (apart, was) = unmarked_before s u in
          elim (m.left s s_in was) [
            | inl h ↦ elim (split_of pending rest r s e h) [
              | inl old ↦ inl (Contains-append_left rest (list_of waiting r) s old)
              | inr new ↦ absurd (apart (sym new))
            ]
            | inr w ↦ elim (cases_eq w.child r) [
              | inl q ↦ inl (Contains-append_right rest (list_of waiting r) s (subst (λ (z : ℕ). Contains (list_of waiting z) s) q w.listed))
              | inr n ↦ inr (record {
                child = w.child;
                listed = subst (λ (l : List ℕ). Contains l s) (sym (get_or-set_other waiting r w.child [] [] n)) w.listed;
                is_child = record {
                  field = w.is_child.field;
                  is_child = w.is_child.is_child;
                  unmarked = get_or-set_other marks r w.child true false n ∙ w.is_child.unmarked;
                };
              })
            ]
          ];
    }

  pub marking_first : (marks : List Bool) (waiting : List (List ℕ)) (pending : List ℕ) → length marks ≡ length table
      → ((k : ℕ) → is_marked marks k ≡ false)
      → length waiting ≡ length table → ((k : ℕ) → list_of waiting k ≡ []) → length pending ≡ length table
      → ((a : ℕ) → a < length table → get_or pending a 0 ≡ a) → Marking marks waiting pending
  marking_first marks waiting pending fits none lists empty as_many alone = record {
    fits = fits;
    lists = lists;
    peeled = peeled_none table own class marks none;
    within = λ r (k, k_in, at).
        let k_low : k < length table = omega arith in
        let is : r ≡ k = sym at ∙ get_or_default pending k r 0 k_in ∙ alone k k_low in
        subst (λ (z : ℕ). z < length table) (sym is) k_low;
    waiters = λ k r h. let (i, i_in, at) = subst (λ (l : List ℕ). Contains l r) (empty k) h in absurd (omega arith);
    left = λ r r_in u. inl (r, (let l : r < length pending = omega arith in l), get_or_default pending r r 0 (omega arith) ∙ alone r r_in);
  }

  -- where nothing is to be looked at any more, each unmarked site has an unmarked child
  pub marking_last : (marks : List Bool) (waiting : List (List ℕ)) (pending : List ℕ) → length pending ≡ 0 → Marking marks waiting pending
      → (r : ℕ) → r < length table → is_marked marks r ≡ false → (k : ℕ) × IsUnmarkedChild table own class marks r k
  marking_last marks waiting pending none m r r_in u = elim (m.left r r_in u) [
    | inl (i, i_in, at) ↦ absurd (omega arith)
    | inr w ↦ (w.child, w.is_child)
  ]

pub no_lists : (n k : ℕ) → list_of (replicate n []) k ≡ []
no_lists zero k = refl
no_lists (suc n) zero = refl
no_lists (suc n) (suc k) = no_lists n k

pub child_within : (table : List Binding) (own : List (Option Constraint)) (class : List ℕ) → AreClasses (length table) class → (r g k : ℕ)
    → IsChildAt table own class r g k → k < length table
child_within table own class classes r g k c =
    subst (λ (z : ℕ). z < length table) c.leads (classes.below g (slice_get_within table g (field_binding c.kind r c.index) c.field))
