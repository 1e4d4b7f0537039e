-- Impure calls, each one part, in order.
use Rattle.std.proofs.Common.{◌≡◌, ◌<◌, ℕ, zero, suc, List, [], ◌∷◌, ◌++◌, Some, length, slice_get, sym, ap, ◌∙◌, inl, inr, subst, arith}
use Rattle.std.specs.List.{AllZip}
use Rattle.std.proofs.lemmas.Option.{slice_get_within}
use Rattle.isle_types.specs.declared.ids.TermId.{TermId}
use Rattle.isle_containers.proofs.Lists.{slice_get-pushed, slice_get-last, slice_get-kept}
use Rattle.isle_meaning.specs.Words.{Step}
use Rattle.isle_program.specs.Plain.LaidOut.Words.{IsLaidStep}
use Rattle.isle_program.specs.Inside.Plain.LaidOut.Expressions.{StandOnce, Ascend}
use Rattle.isle_program.specs.declared.laid.Part.{Part}
use Rattle.isle_program.specs.declared.laid.Part.TheVariants.{Impure}

-- each impure call is one part, as one that isn't comes behind
pub once_more : (parts : List Part) (calls : List ℕ) (part : Part) → ((t : TermId) (ns : List ℕ) (j : ℕ) → part ≡ Impure t ns j → ⊥)
    → StandOnce parts calls → StandOnce (parts ++ part ∷ []) calls
once_more parts calls part plain h = λ n j t ns e. elim (slice_get-pushed parts part n (Impure t ns j) e) [
  | inl old ↦ h n j t ns old
  | inr last ↦ absurd (plain t ns j last.1)
]

-- each impure call is one part, as the next comes behind
pub once_called : (parts : List Part) (calls : List ℕ) (term : TermId) (args : List ℕ) (place : ℕ) → place ≡ length calls
    → StandOnce parts calls → StandOnce (parts ++ Impure term args place ∷ []) (calls ++ length parts ∷ [])
once_called parts calls term args place p h = λ n j t ns e. elim (slice_get-pushed parts (Impure term args place) n (Impure t ns j) e) [
  | inl old ↦ slice_get-kept calls (length parts ∷ []) j n (h n j t ns old)
  | inr last ↦
      let at : j ≡ length calls = let same : Impure term args place ≡ Impure t ns j = last.1 in cc in
      ap (slice_get (calls ++ length parts ∷ [])) at ∙ slice_get-last calls (length parts) ∙ ap (λ (k : ℕ). Some k) (sym last.0)
]

-- what ascends ascends with something greater behind it
pub ascend_more : (calls : List ℕ) (last : ℕ) → ((i m : ℕ) → slice_get calls i ≡ Some m → m < last) → Ascend calls
    → Ascend (calls ++ last ∷ [])
ascend_more calls last below h = λ i j m n less e g. elim (slice_get-pushed calls last j n g) [
  | inl here ↦ elim (slice_get-pushed calls last i m e) [
    | inl there ↦ h i j m n less there here
    | inr end ↦
        let inside : j < length calls = slice_get_within calls j n here in
        let out : i ≡ length calls = end.0 in
        absurd (omega arith)
  ]
  | inr final ↦ elim (slice_get-pushed calls last i m e) [
    | inl there ↦ subst (λ k. m < k) final.1 (below i m there)
    | inr end ↦
        let a : j ≡ length calls = final.0 in
        let b : i ≡ length calls = end.0 in
        absurd (omega arith)
  ]
]

-- impure calls are parts that are there
pub called_inside : (names : List (List ℕ)) (parts : List Part) (steps : List Step) (calls : List ℕ)
    → AllZip (IsLaidStep names parts) steps calls → (i m : ℕ) → slice_get calls i ≡ Some m → m < length parts
called_inside names parts [] [] h i m e = absurd cc
called_inside names parts [] (call ∷ calls) h i m e = absurd h
called_inside names parts (step ∷ steps) [] h i m e = absurd h
called_inside names parts (step ∷ steps) (call ∷ calls) h zero m e =
    let first : call ≡ m = cc in
    subst (λ k. k < length parts) first (slice_get_within parts call _ h.0.there)
called_inside names parts (step ∷ steps) (call ∷ calls) h (suc i) m e = called_inside names parts steps calls h.1 i m e
