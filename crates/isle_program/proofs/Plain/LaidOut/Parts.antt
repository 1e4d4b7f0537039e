-- Parts that come behind others, and calls on parts.
use Rattle.std.proofs.Common.{◌≡◌, ◌<◌, ℕ, zero, suc, true, false, List, [], ◌∷◌, ◌++◌, Some, All, length, slice_get, refl, sym, ap, ◌∙◌, subst}
use Rattle.std.specs.List.{AllZip}
use Rattle.std.proofs.lemmas.Slice.Zip.{all_zipped_more, AllZip-long}
use Rattle.isle_types.specs.declared.ids.TermId.{TermId}
use Rattle.isle_containers.proofs.Lists.{slice_get-last}
use Rattle.isle_meaning.specs.Words.{Word, call_word, Step}
use Rattle.isle_program.specs.Plain.LaidOut.Words.{IsLaid, AreLaid, made_of, StandBehind, IsLaidStep}
use Rattle.isle_program.specs.Inside.Plain.LaidOut.Expressions.{stands_for, IsBound, Keeps, StandOnce, Ascend, IsPut, IsLayout, Lays, LaysCall}
use Rattle.isle_program.specs.declared.laid.Layout.{Layout}
use Rattle.isle_program.specs.declared.laid.Part.{Part}
use Rattle.isle_program.specs.declared.laid.Part.TheVariants.{Call, Impure}
use Rattle.isle_program.proofs.Plain.LaidOut.Calls.{once_more, once_called, ascend_more, called_inside}
use Rattle.isle_program.proofs.Plain.LaidOut.Kept.{are_laid_kept, steps_kept, bound_kept, are_laid_inside, keeps_more, behind_more}

-- the others stay where they are
pub put_keeps : (part : Part) (old new : Layout) (number : ℕ) → IsPut part old new number → Keeps old.parts.items new.parts.items
put_keeps part old new number p =
    subst (λ (parts : List Part). Keeps old.parts.items parts) (sym p.parts) (keeps_more old.parts.items part)

-- the part stands at its number
pub put_there : (part : Part) (old new : Layout) (number : ℕ) → IsPut part old new number → slice_get new.parts.items number ≡ Some part
put_there part old new number p =
    ap (λ (parts : List Part). slice_get parts number) p.parts ∙ ap (slice_get (old.parts.items ++ part ∷ [])) p.last
    ∙ slice_get-last old.parts.items part

-- variables keep standing for their words as a part comes behind
put_bound : (names : List (List ℕ)) (vars : ℕ → Word) (steps : List Step) (part : Part) (old new : Layout) (number : ℕ)
    → IsPut part old new number → new.bound.items ≡ old.bound.items → IsLayout names vars steps old
    → (v : ℕ) → IsBound names new.parts.items v (vars v) (stands_for new.bound.items v)
put_bound names vars steps part old new number p b s v =
    subst (λ bound. IsBound names new.parts.items v (vars v) (stands_for bound v)) (sym b)
    (bound_kept names old.parts.items new.parts.items (put_keeps part old new number p) v (vars v) (stands_for old.bound.items v)
    (s.bound v))

-- what is laid out stays laid out as a part comes behind what it is made of
pub put_state : (names : List (List ℕ)) (vars : ℕ → Word) (steps : List Step) (part : Part) (old new : Layout) (number : ℕ)
    → IsPut part old new number → new.bound.items ≡ old.bound.items → All (λ m. m < length old.parts.items) (made_of part)
    → ((t : TermId) (ns : List ℕ) (j : ℕ) → part ≡ Impure t ns j → ⊥) → IsLayout names vars steps old → IsLayout names vars steps new
put_state names vars steps part old new number p b inside plain s =
    let k : Keeps old.parts.items new.parts.items = put_keeps part old new number p in
    record {
      bound = put_bound names vars steps part old new number p b s;
      called = subst (λ ns. AllZip (IsLaidStep names new.parts.items) steps ns) (sym p.calls)
          (steps_kept names old.parts.items new.parts.items k steps old.calls.items s.called);
      behind = subst (λ parts. StandBehind parts) (sym p.parts) (behind_more old.parts.items part s.behind inside);
      once = subst (λ parts. StandOnce parts new.calls.items) (sym p.parts)
          (subst (λ calls. StandOnce (old.parts.items ++ part ∷ []) calls) (sym p.calls)
          (once_more old.parts.items old.calls.items part plain s.once));
      ascending = subst (λ calls. Ascend calls) (sym p.calls) s.ascending;
    }

-- a part that is this word lays it out
pub put_lays : (names : List (List ℕ)) (vars : ℕ → Word) (steps : List Step) (word : Word) (part : Part) (old new : Layout) (number : ℕ)
    → IsPut part old new number → new.bound.items ≡ old.bound.items → All (λ m. m < length old.parts.items) (made_of part)
    → ((t : TermId) (ns : List ℕ) (j : ℕ) → part ≡ Impure t ns j → ⊥) → IsLaid names new.parts.items word number
    → IsLayout names vars steps old → Lays names vars (word, steps) old new number
put_lays names vars steps word part old new number p b inside plain w s = record {
  whole = w;
  state = put_state names vars steps part old new number p b inside plain s;
  kept = put_keeps part old new number p;
}

-- a pure call of a term
pub lays_pure : (term : TermId) (args : List ℕ) (old new : Layout) (number : ℕ) → IsPut (Call term args) old new number
    → new.bound.items ≡ old.bound.items → LaysCall true term args old new number
lays_pure term args old new number p b = λ names vars steps words s laid.
    put_lays names vars steps (call_word term.0 words zero) (Call term args) old new number p b
    (are_laid_inside names old.parts.items words args laid) (λ t ns j e. cc) (
      term,
      args,
      put_there (Call term args) old new number p,
      refl,
      are_laid_kept names old.parts.items new.parts.items (put_keeps (Call term args) old new number p) words args laid,
    )
    s

-- what is laid out where only the calls differ
called_state : (names : List (List ℕ)) (vars : ℕ → Word) (steps : List Step) (mid new : Layout)
    → new.parts.items ≡ mid.parts.items → new.bound.items ≡ mid.bound.items
    → ((v : ℕ) → IsBound names mid.parts.items v (vars v) (stands_for mid.bound.items v))
    → AllZip (IsLaidStep names mid.parts.items) steps new.calls.items → StandBehind mid.parts.items
    → StandOnce mid.parts.items new.calls.items → Ascend new.calls.items → IsLayout names vars steps new
called_state names vars steps mid new p b bound called behind once ascending = record {
  bound = λ k.
      let P : List Part → Type 0 = λ parts. IsBound names parts k (vars k) (stands_for new.bound.items k) in
      subst P (sym p) (subst (λ stand. IsBound names mid.parts.items k (vars k) (stands_for stand k)) (sym b) (bound k));
  called = subst (λ parts. AllZip (IsLaidStep names parts) steps new.calls.items) (sym p) called;
  behind = subst (λ parts. StandBehind parts) (sym p) behind;
  once = subst (λ parts. StandOnce parts new.calls.items) (sym p) once;
  ascending = ascending;
}

-- a call of a term that isn't pure
pub lays_impure : (term : TermId) (args : List ℕ) (place : ℕ) (old mid new : Layout) (number : ℕ)
    → IsPut (Impure term args place) old mid number → mid.bound.items ≡ old.bound.items → place ≡ length old.calls.items
    → new.parts.items ≡ mid.parts.items → new.bound.items ≡ mid.bound.items → new.calls.items ≡ mid.calls.items ++ number ∷ []
    → LaysCall false term args old new number
lays_impure term args place old mid new number p b l parts bound calls = λ names vars steps words s laid.
    let k : Keeps old.parts.items mid.parts.items = put_keeps (Impure term args place) old mid number p in
    let e : place ≡ length steps = l ∙ AllZip-long (IsLaidStep names old.parts.items) steps old.calls.items s.called in
    let there : slice_get mid.parts.items number ≡ Some (Impure term args (length steps)) =
    put_there (Impure term args place) old mid number p ∙ ap (λ (i : ℕ). Some (Impure term args i)) e in
    let args_laid : AreLaid names mid.parts.items words args = are_laid_kept names old.parts.items mid.parts.items k words args laid in
    let step : Step = record { term = term.0; args = words; place = length steps } in
    let R : Step → ℕ → Type 0 = IsLaidStep names mid.parts.items in
    let last : R step number = record { term = term; args = args; there = there; of_term = refl; laid = args_laid } in
    let all : new.calls.items ≡ old.calls.items ++ number ∷ [] = calls ∙ ap (λ ns. ns ++ number ∷ []) p.calls in
    let before : AllZip R steps old.calls.items = steps_kept names old.parts.items mid.parts.items k steps old.calls.items s.called in
    record {
      whole = subst (λ ps. IsLaid names ps (call_word term.0 words (suc (length steps))) number) (sym parts)
          (term, args, there, refl, args_laid);
      state = called_state names vars (steps ++ step ∷ []) mid new parts bound
          (put_bound names vars steps (Impure term args place) old mid number p b s)
          (subst (λ ns. AllZip R (steps ++ step ∷ []) ns) (sym all) (all_zipped_more R steps old.calls.items step number before last))
          (subst (λ ps. StandBehind ps) (sym p.parts)
          (behind_more old.parts.items (Impure term args place) s.behind (are_laid_inside names old.parts.items words args laid)))
          (subst (λ ns. StandOnce mid.parts.items ns) (sym (all ∙ ap (λ (i : ℕ). old.calls.items ++ i ∷ []) p.last))
          (subst (λ ps. StandOnce ps (old.calls.items ++ length old.parts.items ∷ [])) (sym p.parts)
          (once_called old.parts.items old.calls.items term args place l s.once)))
          (subst (λ ns. Ascend ns) (sym all)
          (ascend_more old.calls.items number
          (λ i m e. subst (λ n. m < n) (sym p.last) (called_inside names old.parts.items steps old.calls.items s.called i m e))
          s.ascending));
      kept = subst (λ ps. Keeps old.parts.items ps) (sym parts) k;
    }
