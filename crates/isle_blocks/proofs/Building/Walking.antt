-- A walk down a table.
use Rattle.std.proofs.Common.{◌≡◌, ◌<◌, ◌+◌, ◌⊎◌, ℕ, zero, suc, Bool, List, [], ◌∷◌, Some, length, slice_get, Contains, refl, sym, ap, ◌∙◌}
use Rattle.std.proofs.Common.{subst, inl, inr, arith, drop, drop-cons, get_or, add-one}
use Rattle.isle_blocks.specs.declared.ids.BindingId.{BindingId}
use Rattle.isle_blocks.specs.declared.binding.Binding.{Binding}
use Rattle.isle_blocks.specs.declared.binding.Binding.TheVariants.{MatchSome}
use Rattle.isle_blocks.specs.Inside.Building.Contents.{PartsAreBefore, Reached, here, through, AreAsked, Marked, HasPart, MarksMore, Walked, IsWalk, IsStart}

pub cons_cases : {A : Type 0} (x : A) (xs : List A) (y : A) → Contains (x ∷ xs) y → (x ≡ y) ⊎ Contains xs y
cons_cases x xs y (zero, within, e) = inl e
cons_cases x xs y (suc k, within, e) = inr (k, omega arith, e)

pub cons_here : {A : Type 0} (x : A) (xs : List A) → Contains (x ∷ xs) x
cons_here x xs = (0, omega arith, refl)

pub cons_there : {A : Type 0} (x : A) (xs : List A) (y : A) → Contains xs y → Contains (x ∷ xs) y
cons_there x xs y c = (suc c.0, omega (arith, c.1), c.2)

pub none_there : {A : Type 0} {B : Type 0} (y : A) → Contains [] y → B
none_there y c = absurd (omega (arith, c.1))

pub marks_none : (marks : List Bool) → MarksMore [] marks marks
marks_none marks = record { fits = refl; kept = λ i h. h; from = λ i h. inl h; all = λ part c m. none_there part c }

pub marks_cons : (x : BindingId) (xs : List BindingId) (a b c : List Bool) → MarksMore (x ∷ []) a b → MarksMore xs b c → MarksMore (x ∷ xs) a c
marks_cons x xs a b c h k = record {
  fits = k.fits ∙ h.fits;
  kept = λ i m. k.kept i (h.kept i m);
  from = λ i m. elim (k.from i m) [
    | inl z ↦ elim (h.from i z) [
      | inl y ↦ inl y
      | inr y ↦ elim (cons_cases x [] y.0 y.1) [
        | inl e ↦ inr (x, cons_here x xs, ap (λ (z : BindingId). z.0) e ∙ y.2)
        | inr w ↦ none_there y.0 w
      ]
    ]
    | inr z ↦ inr (z.0, cons_there x xs z.0 z.1, z.2)
  ];
  all = λ part z m. elim (cons_cases x xs part z) [
    | inl e ↦ k.kept part.0 (subst (λ (w : BindingId). Marked b w.0) e
        (h.all x (cons_here x []) (subst (λ (w : BindingId). w.0 < length a) (sym e) m)))
    | inr w ↦ k.all part w (let f = h.fits in omega arith)
  ];
}

reached_more : (sites : List Binding) (x k i : ℕ) → Reached sites x k → HasPart sites k i → Reached sites x i
reached_more sites x k i (here _) h = through h.0 h.1 h.2 h.3 (subst (λ z. Reached sites h.1.0 z) h.4 (here h.1.0))
reached_more sites x k i (through site part g c r) h = through site part g c (reached_more sites part.0 k i r h)

pub walk_start : (sites : List Binding) (site : ℕ) (marks : List Bool) → IsStart site marks → IsWalk sites site (site + 1) marks []
walk_start sites site marks h = record {
  fits = h.fits;
  start = h.start;
  reach = λ j m. subst (λ z. Reached sites site z) (sym (h.alone j m)) (here site);
  sound = λ u c. none_there u c;
  closed = λ t j i low high m src. absurd (omega arith);
  complete = λ t j u low m g. absurd (let e = h.alone j m in omega arith);
}

-- what is marked after a turn was marked before, and had its turn, or is the number itself
same_or_more : (k j : ℕ) → k < j + 1 → (j ≡ k) ⊎ (k + 1 < j + 1)
same_or_more zero zero h = inl refl
same_or_more zero (suc j) h = inr (omega arith)
same_or_more (suc k) zero h = absurd (omega arith)
same_or_more (suc k) (suc j) h = elim (same_or_more k j (omega arith)) [ inl e ↦ inl (ap suc e) | inr m ↦ inr (omega arith) ]

was_case : (sites : List Binding) (k : ℕ) (marks : List Bool) (j : ℕ) → PartsAreBefore sites → k < j + 1
    → Marked marks j ⊎ (Marked marks k × HasPart sites k j) → (j ≡ k) ⊎ (k + 1 < j + 1)
    → ((k + 1 < j + 1) × Marked marks j) ⊎ ((j ≡ k) × Marked marks k)
was_case sites k marks j t low (inl m) (inl e) = inr (e, subst (λ z. Marked marks z) e m)
was_case sites k marks j t low (inl m) (inr b) = inl (b, m)
was_case sites k marks j t low (inr h) c = absurd (let before = t k h.1.0 h.1.1 h.1.2 h.1.3 in let e = h.1.4 in omega arith)

was_marked : (sites : List Binding) (k : ℕ) (marks new : List Bool) (calls listed : List BindingId) → Walked sites k marks calls new listed
    → PartsAreBefore sites → (j : ℕ) → k < j + 1 → Marked new j → ((k + 1 < j + 1) × Marked marks j) ⊎ ((j ≡ k) × Marked marks k)
was_marked sites k marks new calls listed w t j low m = was_case sites k marks j t low (w.from j m) (same_or_more k j low)

pub walk_turn : (sites : List Binding) (site k : ℕ) (marks new : List Bool) (calls listed : List BindingId) → k < site + 1
    → IsWalk sites site (k + 1) marks calls → Walked sites k marks calls new listed → IsWalk sites site k new listed
walk_turn sites site k marks new calls listed within h w = record {
  fits = w.fits ∙ h.fits;
  start = w.kept site h.start;
  reach = λ j m. elim (w.from j m) [ inl x ↦ h.reach j x | inr x ↦ reached_more sites site k j (h.reach k x.0) x.1 ];
  sound = λ u c. elim (w.calls_from u c) [ inl x ↦ h.sound u x | inr x ↦ (k, h.reach k x.0, x.1) ];
  closed = λ t j i low high m src. elim (was_marked sites k marks new calls listed w t j low m) [
    | inl x ↦ w.kept i (h.closed t j i x.0 high x.1 src)
    | inr x ↦ let part = subst (λ z. HasPart sites z i) x.0 src in
        let before = t k part.0 part.1 part.2 part.3 in
        let e = part.4 in
        w.all i x.1 part (let f = h.fits in omega arith)
  ];
  complete = λ t j u low m g. elim (was_marked sites k marks new calls listed w t j low m) [
    | inl x ↦ w.calls_kept u (h.complete t j u x.0 x.1 g)
    | inr x ↦ w.calls_all u x.1 (subst (λ z. slice_get sites z ≡ Some (MatchSome u)) x.0 g)
  ];
}

marked_on : (sites : List Binding) (site : ℕ) (marks : List Bool) (calls : List BindingId) → IsWalk sites site 0 marks calls
    → PartsAreBefore sites → (x j : ℕ) → x < site + 1 → Marked marks x → Reached sites x j → Marked marks j
marked_on sites site marks calls h t x j b m (here _) = m
marked_on sites site marks calls h t x j b m (through entry part g c r) =
    marked_on sites site marks calls h t part.0 j (let e = t x entry part g c in omega arith)
    (h.closed t x part.0 (omega arith) b m (entry, part, g, c, refl)) r

pub walk_asked : (sites : List Binding) (site : ℕ) (marks : List Bool) (calls : List BindingId) → IsWalk sites site 0 marks calls
    → PartsAreBefore sites → AreAsked sites site calls
walk_asked sites site marks calls h t = record {
  sound = h.sound;
  complete = λ u a. h.complete t a.0 u (omega arith) (marked_on sites site marks calls h t site a.0 (omega arith) h.start a.1) a.2;
}

-- the list at a place: its number, and the rest
pub cut_id : (xs : List BindingId) (i : ℕ) → i < length xs → drop i xs ≡ get_or xs i (record { 0 = 0 }) ∷ drop (i + 1) xs
cut_id xs i n = rw add-one (drop-cons xs i (record { 0 = 0 }) n)
