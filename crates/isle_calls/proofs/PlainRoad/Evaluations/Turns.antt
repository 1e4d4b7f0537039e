-- How an evaluation moves on from part to part.
use Rattle.std.proofs.Common.{◌≡◌, ◌⊎◌, inl, inr, ◌<◌, ◌≤◌, ◌+◌, ◌-◌, ◌*◌, ◌==◌, ℕ, zero, suc, Bool, true, false, List, [], ◌∷◌, ◌++◌}
use Rattle.std.proofs.Common.{length, set, Option, Some, None, slice_get, refl, sym, ◌∙◌, ap, subst, arith, append_assoc}
use Rattle.std.specs.Prelude.{All, Contains, slice_index_or, min}
use Rattle.std.proofs.Math.Nat.{suc-mul, min-le_right, min-le_left, min-eq_left}
use Rattle.std.proofs.lemmas.Bool.{eqb-true, eqb-false}
use Rattle.std.proofs.lemmas.List.{append-nil, get_or-set_same, get_or-set_other, length-set}
use Rattle.std.proofs.lemmas.List.Elements.{All-push, All-pop, Contains-append_left, Contains-push_cases}
use Rattle.std.proofs.lemmas.Option.{slice_get_cases}
use Rattle.isle_containers.proofs.Lists.{slice_get-last}
use Rattle.isle_meaning.specs.Words.{Word}
use Rattle.isle_calls.specs.declared.plain.evaluation.Evaluation.{Evaluation}
use Rattle.isle_calls.specs.declared.store.Stored.{Stored}
use Rattle.isle_calls.specs.Inside.Plain.Underway.{Surroundings, known_at, HasValueAt, LeadsToWhole, IsUnderway, IsKnown, IsAnswered, IsTop, top_of}
use Rattle.isle_calls.specs.Inside.Plain.Underway.{Remains, IsUnder, IsLater, HasTakenOff, one_unknown, unknown_parts, number_or_none, work_left, HasMoved}
use Rattle.isle_meaning.proofs.Calls.Outcomes.{one_longer}

-- the last item of a list with one at the end
last_item : (before : List ℕ) (part : ℕ) → slice_get (before ++ part ∷ []) (length (before ++ part ∷ []) - 1) ≡ Some part
last_item before part =
    let one = one_longer before part in
    let at : length (before ++ part ∷ []) - 1 ≡ length before = omega (arith, one) in
    ap (slice_get (before ++ part ∷ [])) at ∙ slice_get-last before part

-- a list whose item at the last place is this
parted_at : (xs : List ℕ) (x n : ℕ) → length xs ≡ suc n → slice_get xs n ≡ Some x → (before : List ℕ) × (xs ≡ before ++ x ∷ [])
parted_at [] x n e h = absurd cc
parted_at (y ∷ []) x zero e h = let same : y ≡ x = cc in ([], ap (λ (z : ℕ). z ∷ []) same)
parted_at (y ∷ []) x (suc n) e h = absurd cc
parted_at (y ∷ z ∷ zs) x zero e h = absurd (omega (arith, e))
parted_at (y ∷ z ∷ zs) x (suc n) e h =
    let shorter : length (z ∷ zs) ≡ suc n = omega (arith, e) in
    let (before, joined) = parted_at (z ∷ zs) x n shorter h in
    (y ∷ before, ap (λ (l : List ℕ). y ∷ l) joined)

-- the same of the place before the end
last_parted : (xs : List ℕ) (x : ℕ) → slice_get xs (length xs - 1) ≡ Some x → (before : List ℕ) × (xs ≡ before ++ x ∷ [])
last_parted [] x h = absurd cc
last_parted (y ∷ ys) x h =
    let at : length (y ∷ ys) - 1 ≡ length ys = omega arith in
    parted_at (y ∷ ys) x (length ys) refl (subst (λ n. slice_get (y ∷ ys) n ≡ Some x) at h)

-- a list without a last item is empty
no_last : (xs : List ℕ) → slice_get xs (length xs - 1) ≡ None → xs ≡ []
no_last [] h = refl
no_last (y ∷ ys) h =
    let at : length (y ∷ ys) - 1 ≡ length ys = omega arith in
    elim ((slice_get_cases (y ∷ ys) (length (y ∷ ys) - 1)).1) [
      | inl (x, within, is, get) ↦ absurd cc
      | inr (past, none) ↦ absurd (omega (arith, past, at))
    ]

-- a list with an item at its end isn't empty
pub no_snoc : (before : List ℕ) (x : ℕ) → [] ≡ before ++ x ∷ [] → ⊥
no_snoc [] x e = cc
no_snoc (y ∷ before) x e = cc

-- the part on top is the last
pub top_item : (e : Evaluation) (part : ℕ) → IsTop e part → top_of e ≡ Some part
top_item e part top = ap (λ (l : List ℕ). slice_get l (length l - 1)) top.joined ∙ last_item top.before part

-- the last is the part on top
pub top_parted : (e : Evaluation) (part : ℕ) → top_of e ≡ Some part → IsTop e part
top_parted e part h = let (before, joined) = last_parted e.todo.items part h in record { before = before; joined = joined }

-- no part is on top where there is none
pub no_top : (e : Evaluation) → top_of e ≡ None → e.todo.items ≡ []
no_top e h = no_last e.todo.items h

-- what is known is the same where it is kept
pub known_same : (old new : Evaluation) → new.known ≡ old.known → (k : ℕ) → known_at new k ≡ known_at old k
known_same old new e k = ap (λ v. slice_index_or v.items k None) e

-- so what has been evaluated still has
pub still_known : (old new : Evaluation) → new.known ≡ old.known → (k : ℕ) → IsKnown old k → IsKnown new k
still_known old new e k (n, is) = (n, known_same old new e k ∙ is)

-- what remains of what remains
pub remains_again : (first second third : Evaluation) → Remains first second → Remains second third
    → ((k : ℕ) → IsKnown second k → IsKnown third k) → Remains first third
remains_again first second third p q more k among = elim (p k among) [
  | inl h ↦ q k h
  | inr h ↦ inr (more k h)
]

-- parts that have been evaluated are taken off
pub record IsPopped (old new : Evaluation) : Type 0 where
  pub known : new.known ≡ old.known
  pub missed : new.missed ≡ old.missed
  pub off : List ℕ
  pub joined : old.todo.items ≡ new.todo.items ++ off
  pub remains : Remains old new

-- none is, at first
pub popped_first : (e : Evaluation) → IsPopped e e
popped_first e = record { known = refl; missed = refl; off = []; joined = sym (append-nil e.todo.items); remains = λ k h. inl h }

-- one more is
pub popped_next : (old mid new : Evaluation) (part : ℕ) → IsPopped old mid → IsKnown mid part → new.known ≡ mid.known
    → new.missed ≡ mid.missed → mid.todo.items ≡ new.todo.items ++ part ∷ [] → IsPopped old new
popped_next old mid new part popped known same missed joined = record {
  known = same ∙ popped.known;
  missed = missed ∙ popped.missed;
  off = part ∷ popped.off;
  joined = popped.joined ∙ ap (λ (l : List ℕ). l ++ popped.off) joined ∙ append_assoc new.todo.items (part ∷ []) popped.off;
  remains = remains_again old mid new popped.remains one (still_known mid new same);
}
  where
    one : Remains mid new
    one k among =
        elim (Contains-push_cases new.todo.items part k (subst (λ (l : List ℕ). Contains l k) joined among)) [
          | inl h ↦ inl h
          | inr h ↦ inr (still_known mid new same k (subst (IsKnown mid) h known))
        ]

-- down to one that hasn't been evaluated
pub popped_settled : (old new : Evaluation) → IsPopped old new → ((part : ℕ) → IsTop new part → known_at new part ≡ None)
    → HasTakenOff old new
popped_settled old new popped unknown = record {
  known = popped.known;
  missed = popped.missed;
  off = popped.off;
  joined = popped.joined;
  remains = popped.remains;
  open_top = unknown;
}

-- what holds of all holds of the first
All-first : (P : ℕ → Type 0) (xs ys : List ℕ) → All P (xs ++ ys) → All P xs
All-first P xs [] h = subst (All P) (append-nil xs) h
All-first P xs (y ∷ ys) h =
    (All-pop P (xs ++ y ∷ []) xs (Some y) refl (All-first P (xs ++ y ∷ []) ys (subst (All P) (sym (append_assoc xs (y ∷ []) ys)) h))).0

-- so it is still underway
pub settled_underway : (s : Surroundings) (stored : List Stored) (whole : Word) (old new : Evaluation) → HasTakenOff old new
    → IsUnderway s stored whole old → IsUnderway s stored whole new
settled_underway s stored whole old new settled h = record {
  right = λ k n is. h.right k n (sym (known_same old new settled.known k) ∙ is);
  leads = All-first (LeadsToWhole s whole) new.todo.items settled.off
      (subst (All (LeadsToWhole s whole)) settled.joined h.leads);
  sized = ap (λ v. length v.items) settled.known ∙ h.sized;
  missed = λ e. h.missed (sym settled.missed ∙ e);
}

-- one more part is asked for
pub asked_underway : (s : Surroundings) (stored : List Stored) (whole : Word) (old new : Evaluation) (part : ℕ)
    → new.todo.items ≡ old.todo.items ++ part ∷ [] → new.known ≡ old.known → new.missed ≡ old.missed → LeadsToWhole s whole part
    → IsUnderway s stored whole old → IsUnderway s stored whole new
asked_underway s stored whole old new part joined known missed leads h = record {
  right = λ k n is. h.right k n (sym (known_same old new known k) ∙ is);
  leads = subst (All (LeadsToWhole s whole)) (sym joined) (All-push (LeadsToWhole s whole) old.todo.items part h.leads leads);
  sized = ap (λ v. length v.items) known ∙ h.sized;
  missed = λ e. h.missed (sym missed ∙ e);
}

module _ (old new : Evaluation) (number top : ℕ) (it : IsTop old top) (answered : IsAnswered old number new)
    (within : top < length old.known.items) where
  -- the part on top has the number
  pub put_known : known_at new top ≡ Some number
  put_known = ap (λ (l : List (Option ℕ)). slice_index_or l top None) (answered.put it.before top it.joined)
      ∙ get_or-set_same old.known.items top (Some number) None within

  -- any other has what it had
  pub other_known : (k : ℕ) → (k ≡ top → ⊥) → known_at new k ≡ known_at old k
  other_known k apart = ap (λ (l : List (Option ℕ)). slice_index_or l k None) (answered.put it.before top it.joined)
      ∙ get_or-set_other old.known.items top k (Some number) None apart

  -- what is known is that number, or was known
  pub known_now : (k n : ℕ) → known_at new k ≡ Some n → ((k ≡ top) × (n ≡ number)) ⊎ (known_at old k ≡ Some n)
  known_now k n is = go (k == top) refl
    where
      go : (b : Bool) → (k == top) ≡ b → ((k ≡ top) × (n ≡ number)) ⊎ (known_at old k ≡ Some n)
      go true e =
          let same : k ≡ top = eqb-true k top e in
          let here : known_at new top ≡ Some n = subst (λ j. known_at new j ≡ Some n) same is in
          let put = put_known in
          inl (same, cc)
      go false e = inr (sym (other_known k (eqb-false k top e)) ∙ is)

  -- what was known still is
  pub known_still : (k : ℕ) → IsKnown old k → IsKnown new k
  known_still k (n, is) = go (k == top) refl
    where
      go : (b : Bool) → (k == top) ≡ b → IsKnown new k
      go true e = (number, ap (known_at new) (eqb-true k top e) ∙ put_known)
      go false e = (n, other_known k (eqb-false k top e) ∙ is)

  -- all that was to be evaluated still is to be, or has been
  pub answered_remains : Remains old new
  answered_remains k among =
      elim (Contains-push_cases it.before top k (subst (λ (l : List ℕ). Contains l k) it.joined among)) [
        | inl h ↦ inl (subst (λ (l : List ℕ). Contains l k) (sym (answered.taken it.before top it.joined)) h)
        | inr h ↦ inr (number, ap (known_at new) (sym h) ∙ put_known)
      ]

  -- it is still underway, where that is the part's value
  pub answered_underway : (s : Surroundings) (stored : List Stored) (whole : Word) → HasValueAt s stored top number
      → IsUnderway s stored whole old → IsUnderway s stored whole new
  answered_underway s stored whole value h = record {
    right = λ k n is. elim (known_now k n is) [
      | inl (same, number_same) ↦ subst (λ j. HasValueAt s stored k j) (sym number_same)
          (subst (λ j. HasValueAt s stored j number) (sym same) value)
      | inr before ↦ h.right k n before
    ];
    leads = subst (All (LeadsToWhole s whole)) (sym (answered.taken it.before top it.joined))
        (All-first (LeadsToWhole s whole) it.before (top ∷ []) (subst (All (LeadsToWhole s whole)) it.joined h.leads));
    sized = ap length (answered.put it.before top it.joined) ∙ length-set old.known.items top (Some number) ∙ h.sized;
    missed = λ e. h.missed (sym answered.missed ∙ e);
  }

-- one part fewer hasn't been evaluated
unknown_fewer : (xs : List (Option ℕ)) (i n : ℕ) → i < length xs → slice_index_or xs i None ≡ None
    → suc (unknown_parts (set xs i (Some n))) ≡ unknown_parts xs
unknown_fewer [] i n within h = absurd (omega (arith, within))
unknown_fewer (x ∷ xs) zero n within h = let one : one_unknown x ≡ 1 = ap one_unknown h in omega (arith, one)
unknown_fewer (x ∷ xs) (suc i) n within h =
    let below : i < length xs = omega (arith, within) in
    let fewer = unknown_fewer xs i n below h in omega (arith, fewer)

-- with one part fewer there is less to do, whatever is on top
less_work : (u v l a b : ℕ) → suc u ≡ v → (u * suc l + min a l) < (v * suc l + min b l)
less_work u v l a b e =
    let more : v * suc l ≡ u * suc l + suc l = ap (λ z. z * suc l) (sym e) ∙ suc-mul u (suc l) in
    let low = min-le_right a l in
    omega (arith, more, low)

-- of what is under a part, the first ones are
under_first : (root : ℕ) (all first off : List ℕ) → all ≡ first ++ off → (all ≡ []) ⊎ ((lower : List ℕ) × (all ≡ root ∷ lower)
    × All (λ k. k < root) lower) → (first ≡ []) ⊎ ((lower : List ℕ) × (first ≡ root ∷ lower) × All (λ k. k < root) lower)
under_first root all [] off joined under = inl refl
under_first root all (x ∷ first) off joined (inl none) = absurd (let e : [] ≡ x ∷ (first ++ off) = sym none ∙ joined in cc)
under_first root all (x ∷ first) off joined (inr (lower, is, below)) =
    let e : root ∷ lower ≡ x ∷ (first ++ off) = sym is ∙ joined in
    let same : x ≡ root = cc in
    let rest : lower ≡ first ++ off = cc in
    inr (first, ap (λ (y : ℕ). y ∷ first) same, All-first (λ k. k < root) first off (subst (All (λ k. k < root)) rest below))

-- what stands before the part on top stands before the one at the bottom
under_top : (root top part : ℕ) (lower before : List ℕ) → root ∷ lower ≡ before ++ top ∷ [] → All (λ k. k < root) lower → part < top
    → part < root
under_top root top part lower [] joined below less = let same : root ≡ top = cc in omega (arith, same, less)
under_top root top part lower (b ∷ before) joined below less =
    let rest : lower ≡ before ++ top ∷ [] = cc in
    let high : top < root = (All-pop (λ k. k < root) lower before (Some top) rest below).1 in
    omega (arith, high, less)

-- what is asked for before the part on top is under the one at the bottom
under_asked : (root part : ℕ) (old new : Evaluation) (top : ℕ) → IsTop old top → part < top → new.todo.items ≡ old.todo.items ++ part ∷ []
    → IsUnder root old → IsUnder root new
under_asked root part old new top it less joined (inl none) =
    absurd (let e : [] ≡ it.before ++ top ∷ [] = sym none ∙ it.joined in no_snoc it.before top e)
under_asked root part old new top it less joined (inr (lower, is, below)) =
    inr (
      lower ++ part ∷ [],
      joined ∙ ap (λ (l : List ℕ). l ++ part ∷ []) is,
      All-push (λ k. k < root) lower part below (under_top root top part lower it.before (sym is ∙ it.joined) below less),
    )

-- what has come further twice has come further
pub later_again : (first second third : Evaluation) → IsLater first second → IsLater second third → IsLater first third
later_again first second third p q = record {
  sized = q.sized ∙ p.sized;
  missed = q.missed ∙ p.missed;
  remains = remains_again first second third p.remains q.remains q.more;
  more = λ k h. q.more k (p.more k h);
  under = λ root h. q.under root (p.under root h);
}

-- an evaluation is as far as itself
pub later_same : (e f : Evaluation) → f ≡ e → IsLater e f
later_same e f same = subst (IsLater e) (sym same) (record {
  sized = refl;
  missed = refl;
  remains = λ k h. inl h;
  more = λ k h. h;
  under = λ root h. h;
})

-- so it has where parts were taken off
pub settled_later : (old new : Evaluation) → HasTakenOff old new → IsLater old new
settled_later old new settled = record {
  sized = ap (λ v. length v.items) settled.known;
  missed = settled.missed;
  remains = settled.remains;
  more = still_known old new settled.known;
  under = λ root h. under_first root old.todo.items new.todo.items settled.off settled.joined h;
}

-- and where the part on top was answered
pub answered_later : (old new : Evaluation) (number top : ℕ) → IsTop old top → top < length old.known.items → IsAnswered old number new
    → IsLater old new
answered_later old new number top it within answered = record {
  sized = ap length (answered.put it.before top it.joined) ∙ length-set old.known.items top (Some number);
  missed = answered.missed;
  remains = answered_remains old new number top it answered within;
  more = known_still old new number top it answered within;
  under = λ root h. subst (λ (l : List ℕ). (l ≡ []) ⊎ ((lower : List ℕ) × (l ≡ root ∷ lower) × All (λ k. k < root) lower))
      (sym (answered.taken it.before top it.joined)) (under_first root old.todo.items it.before (top ∷ []) it.joined h);
}

-- with a lower part on top there is less to do
lower_top : (w a b l x y : ℕ) → a ≡ x → b ≡ y → x < y → y < l → (w + min a l) < (w + min b l)
lower_top w a b l x y p q below within =
    let low = min-le_left a l in
    let high : min b l ≡ b = min-eq_left (omega (arith, q, within)) in
    omega (arith, low, high, p, q, below)

-- an answer, and what is taken off after it, come nearer to the end
pub answered_moves : (old mid new : Evaluation) (number top : ℕ) → IsTop old top → top < length old.known.items → known_at old top ≡ None
    → IsAnswered old number mid → HasTakenOff mid new → HasMoved old new
answered_moves old mid new number top it within unknown answered settled =
    let put = answered.put it.before top it.joined in
    let known : new.known.items ≡ set old.known.items top (Some number) = ap (λ v. v.items) settled.known ∙ put in
    let size : length new.known.items ≡ length old.known.items = ap length known ∙ length-set old.known.items top (Some number) in
    record {
      later = later_again old mid new (answered_later old mid number top it within answered) (settled_later mid new settled);
      open_top = settled.open_top;
      smaller = subst (λ l. (unknown_parts new.known.items * suc l + min (number_or_none (top_of new)) l) < work_left old) (sym size)
          (less_work (unknown_parts new.known.items) (unknown_parts old.known.items) (length old.known.items) (number_or_none (top_of new))
          (number_or_none (top_of old)) (ap (λ (l : List (Option ℕ)). suc (unknown_parts l)) known
          ∙ unknown_fewer old.known.items top number within unknown));
    }

-- so does asking for a part before
pub asked_moves : (old new : Evaluation) (part top : ℕ) → IsTop old top → top < length old.known.items → part < top
    → known_at old part ≡ None → new.todo.items ≡ old.todo.items ++ part ∷ [] → new.known ≡ old.known → new.missed ≡ old.missed
    → HasMoved old new
asked_moves old new part top it within below unknown joined known missed = record {
  later = record {
    sized = ap (λ v. length v.items) known;
    missed = missed;
    remains = λ k among. inl (subst (λ (l : List ℕ). Contains l k) (sym joined) (Contains-append_left old.todo.items (part ∷ []) k among));
    more = still_known old new known;
    under = λ root h. under_asked root part old new top it below joined h;
  };
  open_top = λ other also.
      (let same : other ≡ part = (let p = top_item new other also in let q = top_item new part its in cc) in
      known_same old new known other ∙ ap (known_at old) same ∙ unknown);
  smaller = (
      let high : top_of old ≡ Some top = top_item old top it in
      let low : top_of new ≡ Some part = top_item new part its in
      subst (λ (l : List (Option ℕ)). (unknown_parts l * suc (length l) + min (number_or_none (top_of new)) (length l)) < work_left old)
      (sym (ap (λ v. v.items) known))
      (lower_top (unknown_parts old.known.items * suc (length old.known.items)) (number_or_none (top_of new)) (number_or_none (top_of old))
      (length old.known.items) part top (ap number_or_none low) (ap number_or_none high) below within));
}
  where
    its : IsTop new part
    its = record { before = old.todo.items; joined = joined }

-- parts of which nothing is known, at most so many
pub record AreUnknown (most : ℕ) (known : List (Option ℕ)) : Type 0 where
  pub within : length known ≤ most
  pub none : (k : ℕ) → slice_index_or known k None ≡ None

-- one more of which nothing is known
unknown_more : (xs : List (Option ℕ)) → ((k : ℕ) → slice_index_or xs k None ≡ None) → (k : ℕ)
    → slice_index_or (xs ++ None ∷ []) k None ≡ None
unknown_more [] h zero = refl
unknown_more [] h (suc k) = refl
unknown_more (x ∷ xs) h zero = h zero
unknown_more (x ∷ xs) h (suc k) = unknown_more xs (λ j. h (suc j)) k

pub unknown_first : (most : ℕ) → AreUnknown most []
unknown_first most = record { within = omega arith; none = λ k. refl }

pub unknown_next : (most : ℕ) (known more : List (Option ℕ)) → length known < most → more ≡ known ++ None ∷ [] → AreUnknown most known
    → AreUnknown most more
unknown_next most known more room joined h = record {
  within = (let one : length (known ++ None ∷ []) ≡ suc (length known) = one_longer known None in
      let same : length more ≡ length (known ++ None ∷ []) = ap length joined in omega (arith, one, same, room));
  none = λ k. ap (λ (l : List (Option ℕ)). slice_index_or l k None) joined ∙ unknown_more known h.none k;
}

-- the part on top, where it hasn't been evaluated
pub open_at : (e : Evaluation) (part other : ℕ) → top_of e ≡ Some part → known_at e part ≡ None → IsTop e other → known_at e other ≡ None
open_at e part other top unknown also =
    let same : part ≡ other = (let q = top_item e other also in cc) in subst (λ k. known_at e k ≡ None) same unknown

-- no part is on top where there is none
pub none_on_top : (e : Evaluation) (part : ℕ) → top_of e ≡ None → IsTop e part → known_at e part ≡ None
none_on_top e part none top = let q = top_item e part top in absurd cc

-- where a part is on top there is one
pub top_there : (e : Evaluation) (part : ℕ) → top_of e ≡ Some part → 0 < length e.todo.items
top_there e part top = go e.todo.items top
  where
    go : (xs : List ℕ) → slice_get xs (length xs - 1) ≡ Some part → 0 < length xs
    go [] h = absurd cc
    go (x ∷ xs) h = omega arith

-- what is taken off is the part on top
pub taken_is : (xs ys : List ℕ) (q part : ℕ) → xs ≡ ys ++ q ∷ [] → slice_get xs (length xs - 1) ≡ Some part → xs ≡ ys ++ part ∷ []
taken_is xs ys q part joined top =
    let last : slice_get xs (length xs - 1) ≡ Some q = ap (λ (l : List ℕ). slice_get l (length l - 1)) joined ∙ last_item ys q in
    let same : q ≡ part = cc in
    joined ∙ ap (λ j. ys ++ j ∷ []) same

-- and one fewer is left
pub taken_fewer : (xs ys : List ℕ) (part : ℕ) → xs ≡ ys ++ part ∷ [] → length ys < length xs
taken_fewer xs ys part joined =
    let one = one_longer ys part in let same : length xs ≡ length (ys ++ part ∷ []) = ap length joined in omega (arith, one, same)
