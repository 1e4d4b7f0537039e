-- Words that are typed among some variables are typed among more.
use Rattle.std.proofs.Common.{ℕ, zero, suc, List, [], ◌∷◌}
use Rattle.isle_meaning.specs.Words.{Word, var_word, bool_word, int_word, prim_word, variant_word, struct_word, call_word, Words}
use Rattle.isle_meaning.specs.Words.{no_words, more_words, Step}
use Rattle.isle_meaning.specs.Worlds.{CheckedProgram}
use Rattle.isle_meaning.specs.Inside.TypedWords.{IsTypedWord, AreTypedWords, AreTypedSteps}

module _ (p : CheckedProgram) (R S T : ℕ → Type 0) (G D : ℕ → ℕ) (wider : (k : ℕ) → S k → T k) where
  mutual
    -- a word that is typed among some variables is typed among more
    pub typed_wider : (x : Word) (u : ℕ) → IsTypedWord p R S G D x u → IsTypedWord p R T G D x u
    typed_wider (var_word k) u h = (wider k h.0, h.1)
    typed_wider (bool_word ty b) u h = h
    typed_wider (int_word ty n) u h = h
    typed_wider (prim_word name) u h = h
    typed_wider (variant_word ty k ws) u h = (h.0, h.1, typed_all_wider ws _ h.2)
    typed_wider (struct_word ty ws) u h = (h.0, h.1, typed_all_wider ws _ h.2)
    typed_wider (call_word t ws zero) u h = (h.0, h.1, h.2, typed_all_wider ws _ h.3, h.4)
    typed_wider (call_word t ws (suc i)) u h = (h.0, h.1, h.2, h.3, typed_all_wider ws _ h.4)

    pub typed_all_wider : (xs : Words) (us : List ℕ) → AreTypedWords p R S G D xs us → AreTypedWords p R T G D xs us
    typed_all_wider no_words [] h = tt
    typed_all_wider no_words (u ∷ us) h = absurd h
    typed_all_wider (more_words x xs) [] h = absurd h
    typed_all_wider (more_words x xs) (u ∷ us) h = (typed_wider x u h.0, typed_all_wider xs us h.1)

  -- so are impure calls
  pub steps_wider : (n : ℕ) (steps : List Step) → AreTypedSteps p R S G D n steps → AreTypedSteps p R T G D n steps
  steps_wider n [] h = tt
  steps_wider n (s ∷ steps) h = ((h.0.0, h.0.1, h.0.2, typed_all_wider s.args _ h.0.3), h.1, steps_wider (suc n) steps h.2)
