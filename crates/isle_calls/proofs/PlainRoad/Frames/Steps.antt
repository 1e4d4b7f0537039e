-- A right side from a place on: its impure calls, and the parts that they are.
use Rattle.std.proofs.Common.{◌≡◌, ◌+◌, ◌<◌, ◌≤◌, ℕ, zero, suc, List, [], ◌∷◌, Option, Some, length, slice_get, drop, refl, ap, subst, arith}
use Rattle.std.specs.Prelude.{slice_index_or}
use Rattle.std.specs.List.{AllZip}
use Rattle.isle_meaning.specs.Values.{Value, Values}
use Rattle.isle_meaning.specs.Words.{Word, call_word, Step}
use Rattle.isle_meaning.specs.Worlds.{CheckedProgram, Answers, Event}
use Rattle.isle_program.specs.declared.laid.Part.{Part}
use Rattle.isle_program.specs.Plain.LaidOut.Words.{IsLaid, IsLaidStep}
use Rattle.isle_meaning.specs.Outcomes.{Outcome, given, missing, ended, After, Then}
use Rattle.isle_meaning.specs.PlainRuns.{WordRuns, RightRuns}
use Rattle.isle_meaning.specs.Inside.TypedWords.{IsTypedWord, IsTypedStep, AreTypedSteps}
use Rattle.isle_calls.specs.Inside.Plain.Underway.{Stops}
use Rattle.isle_calls.specs.Inside.Plain.Frames.{word_at}

-- an impure call that wasn't answered comes to no value
call_stops : (done : List (Option Value)) (i : ℕ) (g : Outcome Values) (r : Outcome Value)
    (next : Values → List Event → Outcome Value → Type 0) → Stops r
    → After g (λ vs r. (v : Value) × (slice_get done i ≡ Some (Some v)) × (r ≡ given v)) r → Then g next [] r
call_stops done i (given vs) r next stops h = absurd (subst Stops (h.2) stops)
call_stops done i missing r next stops h = (refl, h)
call_stops done i (ended e) r next stops h = (refl, h)

module _ (p : CheckedProgram) (w : Answers) (below : ℕ → Values → List Event → Outcome Value → Type 0) (a : ℕ → Value)
    (done : List (Option Value)) where
  -- where no value comes of what is needed at a place, none comes of the right side
  pub right_stops : (steps : List Step) (result : Word) (n : ℕ) (r : Outcome Value) → Stops r
      → WordRuns p w below a done (word_at steps result n) r → RightRuns p w below a done (drop n steps) result [] r
  right_stops [] result zero r stops h = (refl, h)
  right_stops [] result (suc n) r stops h = (refl, h)
  right_stops (s ∷ steps) result zero r stops (g, run, next) = (g, run, call_stops done s.place g r _ stops next)
  right_stops (s ∷ steps) result (suc n) r stops h = right_stops steps result n r stops h

  -- past the last impure call the result is the right side's
  pub right_gives : (steps : List Step) (result : Word) (n : ℕ) (r : Outcome Value) → length steps ≤ n
      → WordRuns p w below a done (word_at steps result n) r → RightRuns p w below a done (drop n steps) result [] r
  right_gives [] result zero r past h = (refl, h)
  right_gives [] result (suc n) r past h = (refl, h)
  right_gives (s ∷ steps) result zero r past h = absurd (omega (arith, past))
  right_gives (s ∷ steps) result (suc n) r past h = right_gives steps result n r (omega (arith, past)) h

-- the impure call of a place is the first of those from there on
pub drop_there : (steps : List Step) (n : ℕ) (s : Step) → slice_get steps n ≡ Some s → drop n steps ≡ s ∷ drop (suc n) steps
drop_there [] n s e = absurd cc
drop_there (x ∷ steps) zero s e = let q : x ≡ s = cc in ap (λ (z : Step). z ∷ steps) q
drop_there (x ∷ steps) (suc n) s e = drop_there steps n s e

-- it is what is evaluated there
pub word_there : (steps : List Step) (result : Word) (n : ℕ) (s : Step) → slice_get steps n ≡ Some s
    → word_at steps result n ≡ call_word s.term s.args (suc s.place)
word_there [] result n s e = absurd cc
word_there (x ∷ steps) result zero s e = let q : x ≡ s = cc in ap (λ (z : Step). call_word z.term z.args (suc z.place)) q
word_there (x ∷ steps) result (suc n) s e = word_there steps result n s e

-- within a list there is an item
pub there_within : {A : Type 0} (xs : List A) (n : ℕ) → n < length xs → (x : A) × (slice_get xs n ≡ Some x)
there_within [] n h = absurd (omega (arith, h))
there_within (x ∷ xs) zero h = (x, refl)
there_within (x ∷ xs) (suc n) h = there_within xs n (omega (arith, h))

-- an item is within its list
pub within_there : {A : Type 0} (xs : List A) (n : ℕ) (x : A) → slice_get xs n ≡ Some x → n < length xs
within_there [] n x e = absurd cc
within_there (y ∷ xs) zero x e = omega arith
within_there (y ∷ xs) (suc n) x e = omega (arith, within_there xs n x e)

-- what stands at a place, or else the default
pub index_there : {A : Type 0} (xs : List A) (n : ℕ) (d x : A) → slice_get xs n ≡ Some x → slice_index_or xs n d ≡ x
index_there [] n d x e = absurd cc
index_there (y ∷ xs) zero d x e = let q : y ≡ x = cc in q
index_there (y ∷ xs) (suc n) d x e = index_there xs n d x e

module _ (p : CheckedProgram) (R S : ℕ → Type 0) (G D : ℕ → ℕ) where
  -- a typed call stands at its place
  pub step_typed : (m : ℕ) (steps : List Step) (n : ℕ) (s : Step) → AreTypedSteps p R S G D m steps → slice_get steps n ≡ Some s
      → (s.place ≡ m + n) × IsTypedStep p R S G D s
  step_typed m [] n s h e = absurd cc
  step_typed m (x ∷ steps) zero s h e =
      let q : x ≡ s = cc in (subst (λ (z : Step). z.place ≡ m + 0) q (omega (arith, h.1)), subst (IsTypedStep p R S G D) q (h.0))
  step_typed m (x ∷ steps) (suc n) s h e =
      let (at, typed) = step_typed (suc m) steps n s (h.2) e in (omega (arith, at), typed)

  module _ (names : List (List ℕ)) (parts : List Part) where
    -- the part that is needed at a place is what is evaluated there
    pub root_laid : (m : ℕ) (steps : List Step) (calls : List ℕ) (result : Word) (root type : ℕ) (n : ℕ) → AllZip (IsLaidStep names
        parts) steps calls
        → AreTypedSteps p R S G D m steps → IsLaid names parts result root → IsTypedWord p R S G D result type
        → (u : ℕ) × IsLaid names parts (word_at steps result n) (slice_index_or calls n root) × IsTypedWord p R S G D (word_at steps
        result n) u
    root_laid m [] [] result root type n z t l h = (type, l, h)
    root_laid m [] (c ∷ calls) result root type n z t l h = absurd z
    root_laid m (s ∷ steps) [] result root type n z t l h = absurd z
    root_laid m (s ∷ steps) (c ∷ calls) result root type zero z t l h =
        (p.terms.type_of s.term, (z.0.term, z.0.args, z.0.there, z.0.of_term, z.0.laid), (refl, t.0.0, t.0.1, t.0.2, t.0.3))
    root_laid m (s ∷ steps) (c ∷ calls) result root type (suc n) z t l h = root_laid (suc m) steps calls result root type n (z.1) (t.2) l h

-- the impure call of a place, and its part
pub step_laid : (names : List (List ℕ)) (parts : List Part) (steps : List Step) (calls : List ℕ) (n c : ℕ) → AllZip (IsLaidStep names
    parts) steps calls
    → slice_get calls n ≡ Some c → (s : Step) × (slice_get steps n ≡ Some s) × IsLaidStep names parts s c
step_laid names parts [] calls n c z e = absurd (none calls z e)
  where
    none : (calls : List ℕ) → AllZip (IsLaidStep names parts) [] calls → slice_get calls n ≡ Some c → ⊥
    none [] z e = absurd cc
    none (x ∷ calls) z e = z
step_laid names parts (s ∷ steps) [] n c z e = absurd z
step_laid names parts (s ∷ steps) (x ∷ calls) zero c z e = let q : x ≡ c = cc in (s, refl, subst (IsLaidStep names parts s) q (z.0))
step_laid names parts (s ∷ steps) (x ∷ calls) (suc n) c z e = step_laid names parts steps calls n c (z.1) e

-- there are as many
pub as_many : {A B : Type 0} (P : A → B → Type 0) (xs : List A) (ys : List B) → AllZip P xs ys → length xs ≡ length ys
as_many P [] [] z = refl
as_many P [] (y ∷ ys) z = absurd z
as_many P (x ∷ xs) [] z = absurd z
as_many P (x ∷ xs) (y ∷ ys) z = ap suc (as_many P xs ys (z.1))
