-- What is laid out stays laid out as more parts come behind it.
use Rattle.std.proofs.Common.{◌<◌, ℕ, zero, suc, List, [], ◌∷◌, ◌++◌, Option, None, Some, All, length, inl, inr, subst, sym}
use Rattle.std.specs.List.{AllZip}
use Rattle.std.proofs.lemmas.Option.{slice_get_within}
use Rattle.std.proofs.lemmas.List.Elements.{All-cons, All-nil}
use Rattle.isle_containers.proofs.Lists.{slice_get-pushed, slice_get-kept}
use Rattle.isle_meaning.specs.Words.{Word, var_word, bool_word, int_word, prim_word, variant_word, struct_word, call_word, Words}
use Rattle.isle_meaning.specs.Words.{no_words, more_words, Step}
use Rattle.isle_program.specs.Plain.LaidOut.Words.{IsLaid, AreLaid, made_of, StandBehind, IsLaidStep}
use Rattle.isle_program.specs.Inside.Plain.LaidOut.Expressions.{IsBound, Keeps}
use Rattle.isle_program.specs.declared.laid.Part.{Part}

-- a word stays laid at its part
mutual
  pub laid_kept : (names : List (List ℕ)) (old new : List Part) → Keeps old new → (w : Word) (n : ℕ)
      → IsLaid names old w n → IsLaid names new w n
  laid_kept names old new k (var_word v) n h = (h.0, k.each n _ h.1, h.2)
  laid_kept names old new k (bool_word ty b) n h = k.each n _ h
  laid_kept names old new k (int_word ty i) n h = k.each n _ h
  laid_kept names old new k (prim_word name) n h = (h.0, k.each n _ h.1, h.2)
  laid_kept names old new k (variant_word ty v ws) n h =
      (h.0, h.1, h.2, k.each n _ h.3, h.4, h.5, are_laid_kept names old new k ws h.2 h.6)
  laid_kept names old new k (struct_word ty ws) n h = (h.0, h.1, k.each n _ h.2, h.3, are_laid_kept names old new k ws h.1 h.4)
  laid_kept names old new k (call_word t ws zero) n h = (h.0, h.1, k.each n _ h.2, h.3, are_laid_kept names old new k ws h.1 h.4)
  laid_kept names old new k (call_word t ws (suc i)) n h = (h.0, h.1, k.each n _ h.2, h.3, are_laid_kept names old new k ws h.1 h.4)

  -- words stay laid at their parts
  pub are_laid_kept : (names : List (List ℕ)) (old new : List Part) → Keeps old new → (ws : Words) (ns : List ℕ)
      → AreLaid names old ws ns → AreLaid names new ws ns
  are_laid_kept names old new k no_words [] h = h
  are_laid_kept names old new k no_words (n ∷ ns) h = h
  are_laid_kept names old new k (more_words w ws) [] h = h
  are_laid_kept names old new k (more_words w ws) (n ∷ ns) h = (
    laid_kept names old new k w n h.0,
    are_laid_kept names old new k ws ns h.1,
  )

-- an impure call stays laid at its part
pub step_kept : (names : List (List ℕ)) (old new : List Part) → Keeps old new → (step : Step) (n : ℕ)
    → IsLaidStep names old step n → IsLaidStep names new step n
step_kept names old new k step n h = record {
  term = h.term;
  args = h.args;
  there = k.each n _ h.there;
  of_term = h.of_term;
  laid = are_laid_kept names old new k step.args h.args h.laid;
}

-- impure calls stay laid at their parts
pub steps_kept : (names : List (List ℕ)) (old new : List Part) → Keeps old new → (steps : List Step) (ns : List ℕ)
    → AllZip (IsLaidStep names old) steps ns → AllZip (IsLaidStep names new) steps ns
steps_kept names old new k [] [] h = h
steps_kept names old new k [] (n ∷ ns) h = h
steps_kept names old new k (step ∷ steps) [] h = h
steps_kept names old new k (step ∷ steps) (n ∷ ns) h = (step_kept names old new k step n h.0, steps_kept names old new k steps ns h.1)

-- a variable keeps standing for its word
pub bound_kept : (names : List (List ℕ)) (old new : List Part) → Keeps old new → (v : ℕ) (w : Word) (part : Option ℕ)
    → IsBound names old v w part → IsBound names new v w part
bound_kept names old new k v w None h = h
bound_kept names old new k v w (Some n) h = laid_kept names old new k w n h

-- a word stands at a part that is there
pub laid_inside : (names : List (List ℕ)) (parts : List Part) (w : Word) (n : ℕ) → IsLaid names parts w n → n < length parts
laid_inside names parts (var_word v) n h = slice_get_within parts n _ h.1
laid_inside names parts (bool_word ty b) n h = slice_get_within parts n _ h
laid_inside names parts (int_word ty i) n h = slice_get_within parts n _ h
laid_inside names parts (prim_word name) n h = slice_get_within parts n _ h.1
laid_inside names parts (variant_word ty v ws) n h = slice_get_within parts n _ h.3
laid_inside names parts (struct_word ty ws) n h = slice_get_within parts n _ h.2
laid_inside names parts (call_word t ws zero) n h = slice_get_within parts n _ h.2
laid_inside names parts (call_word t ws (suc i)) n h = slice_get_within parts n _ h.2

-- words stand at parts that are there
pub are_laid_inside : (names : List (List ℕ)) (parts : List Part) (ws : Words) (ns : List ℕ) → AreLaid names parts ws ns
    → All (λ m. m < length parts) ns
are_laid_inside names parts no_words [] h = All-nil (λ m. m < length parts)
are_laid_inside names parts no_words (n ∷ ns) h = absurd h
are_laid_inside names parts (more_words w ws) [] h = absurd h
are_laid_inside names parts (more_words w ws) (n ∷ ns) h =
    All-cons (λ m. m < length parts) n ns (laid_inside names parts w n h.0) (are_laid_inside names parts ws ns h.1)

-- parts stay where they are as one more comes behind them
pub keeps_more : (parts : List Part) (part : Part) → Keeps parts (parts ++ part ∷ [])
keeps_more parts part = record { each = λ n found h. slice_get-kept parts (part ∷ []) n found h }

-- parts stay where they are, twice
pub keeps_twice : (a b c : List Part) → Keeps a b → Keeps b c → Keeps a c
keeps_twice a b c h g = record { each = λ n part e. g.each n part (h.each n part e) }

-- one more part stands behind what it is made of
pub behind_more : (parts : List Part) (part : Part) → StandBehind parts → All (λ m. m < length parts) (made_of part)
    → StandBehind (parts ++ part ∷ [])
behind_more parts part h g n found e = elim (slice_get-pushed parts part n found e) [
  | inl old ↦ h n found old
  | inr last ↦
      let P : ℕ → Type 0 = λ l. All (λ m. m < l) (made_of found) in
      subst P (sym last.0) (let Q : Part → Type 0 = λ p. All (λ m. m < length parts) (made_of p) in subst Q last.1 g)
]
