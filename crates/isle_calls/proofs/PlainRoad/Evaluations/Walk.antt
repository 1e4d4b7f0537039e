-- The parts that an evaluation looks at one after another.
use Rattle.std.proofs.Common.{◌≡◌, ◌<◌, ◌≤◌, ◌+◌, ℕ, true, false, List, [], ◌∷◌, ◌++◌, length, drop, get_or, Option, Some, None}
use Rattle.std.proofs.Common.{refl, sym, ◌∙◌, ap, subst, add-one, drop-cons, drop_of_length-le, append_assoc}
use Rattle.std.proofs.lemmas.List.{append-nil}
use Rattle.std.proofs.Common.{slice_get, Result, Ok, Err}
use Rattle.std.specs.Prelude.{is_some, IfOk}
use Rattle.isle_calls.specs.declared.plain.evaluation.Step.{Step}
use Rattle.isle_calls.specs.declared.plain.evaluation.Step.TheVariants.{Is}
use Rattle.isle_calls.specs.declared.store.Stored.{Stored}
use Rattle.isle_calls.specs.declared.plain.evaluation.Evaluation.{Evaluation}
use Rattle.isle_calls.specs.Inside.Plain.Underway.{known_at, IsKnown, if_unknown, first_unknown, number_before, known_numbers}

-- what isn't none is something
pub some_there : (o : Option ℕ) → is_some o ≡ true → (n : ℕ) × (o ≡ Some n)
some_there None h = absurd cc
some_there (Some n) h = (n, refl)

-- what isn't something is none
pub none_there : (o : Option ℕ) → is_some o ≡ false → o ≡ None
none_there None h = refl
none_there (Some n) h = absurd cc

-- the step that is put, with the number of its node
pub put_told : {E : Type 0} (r : Result Step E) (new : List Stored) (node : Stored) (Q : Step → Type 0)
    → IfOk r (λ step. (n : ℕ) × (slice_get new n ≡ Some node) × (step ≡ Is n)) → ((n : ℕ) → slice_get new n ≡ Some node → Q (Is n))
    → IfOk r Q
put_told (Ok step) new node Q (n, here, is) f = subst Q (sym is) (f n here)
put_told (Err e) new node Q told f = tt

-- two clauses of one result give a third
pub both_told : {E : Type 0} (r : Result Step E) (P O Q : Step → Type 0) → IfOk r P → IfOk r O → ((step : Step) → P step → O step → Q step)
    → IfOk r Q
both_told (Ok step) P O Q p o f = f step p o
both_told (Err e) P O Q p o f = tt

module _ (e : Evaluation) (ks : List ℕ) (i : ℕ) where
  -- the parts from one on are that one and those behind
  parts_cut : i < length ks → drop i ks ≡ get_or ks i 0 ∷ drop (i + 1) ks
  parts_cut within = rw add-one (drop-cons ks i 0 within)

  -- the first that hasn't been evaluated is this one
  pub open_here : i < length ks → known_at e (get_or ks i 0) ≡ None → first_unknown e (drop i ks) ≡ Some (get_or ks i 0)
  open_here within unknown =
      ap (first_unknown e) (parts_cut within)
      ∙ ap (λ o. if_unknown o (get_or ks i 0) (first_unknown e (drop (i + 1) ks))) unknown

  -- it is behind this one
  pub open_behind : i < length ks → IsKnown e (get_or ks i 0) → first_unknown e (drop i ks) ≡ first_unknown e (drop (i + 1) ks)
  open_behind within (n, known) =
      ap (first_unknown e) (parts_cut within)
      ∙ ap (λ o. if_unknown o (get_or ks i 0) (first_unknown e (drop (i + 1) ks))) known

  -- there is none past the end
  pub none_open : length ks ≤ i → first_unknown e (drop i ks) ≡ None
  none_open past = ap (first_unknown e) (drop_of_length-le ks past)

  -- this one has a number
  pub number_here : (before : List ℕ) (n : ℕ) → i < length ks → known_at e (get_or ks i 0) ≡ Some n
      → (before ++ n ∷ []) ++ known_numbers e (drop (i + 1) ks) ≡ before ++ known_numbers e (drop i ks)
  number_here before n within known =
      append_assoc before (n ∷ []) (known_numbers e (drop (i + 1) ks))
      ∙ ap (λ (l : List ℕ). before ++ l) (sym (ap (known_numbers e) (parts_cut within)
      ∙ ap (λ o. number_before o (known_numbers e (drop (i + 1) ks))) known))

  -- this one has none
  pub number_behind : (before : List ℕ) → i < length ks → known_at e (get_or ks i 0) ≡ None
      → before ++ known_numbers e (drop (i + 1) ks) ≡ before ++ known_numbers e (drop i ks)
  number_behind before within unknown =
      ap (λ (l : List ℕ). before ++ l) (sym (ap (known_numbers e) (parts_cut within)
      ∙ ap (λ o. number_before o (known_numbers e (drop (i + 1) ks))) unknown))

  -- there is none past the end
  pub no_number : (before : List ℕ) → length ks ≤ i → before ++ known_numbers e (drop i ks) ≡ before
  no_number before past = ap (λ (l : List ℕ). before ++ known_numbers e l) (drop_of_length-le ks past) ∙ append-nil before
