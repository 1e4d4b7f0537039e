-- A run of bytes before what ends a token.
use Rattle.std.proofs.Common.{◌≡◌, ◌++◌, ◌⊎◌, inl, inr, ℕ, List, [], ◌∷◌, Bool, true, false, cond, refl, ap, ◌∙◌}
use Rattle.std.specs.List.{list_all}
use Rattle.isle_syntax.specs.Tokens.Gaps.{after_run, run_of}
use Rattle.isle_syntax.proofs.Reading.SymbolKinds.{and_first, and_second}

-- the end of a text, a space or `)` ends a token
abbrev pub Ends : List ℕ → Type 0
Ends [] = Unit {0}
Ends (b ∷ bs) = (b ≡ 32) ⊎ (b ≡ 41)

-- no byte of this kind begins a text
abbrev pub Stops : (ℕ → Bool) → List ℕ → Type 0
Stops p [] = Unit {0}
Stops p (b ∷ bs) = p b ≡ false

pub stops : (p : ℕ → Bool) (rest : List ℕ) → p 32 ≡ false → p 41 ≡ false → Ends rest → Stops p rest
stops p [] space parenthesis ends = tt
stops p (b ∷ bs) space parenthesis (inl e) = ap p e ∙ space
stops p (b ∷ bs) space parenthesis (inr e) = ap p e ∙ parenthesis

pub run_front : (p : ℕ → Bool) (bs rest : List ℕ) → list_all p bs ≡ true → Stops p rest → run_of p (bs ++ rest) ≡ bs
unfolding run_of
run_front p [] [] all stop = refl
run_front p [] (r ∷ rest) all stop = ap (λ t. cond t (r ∷ run_of p rest) []) stop
run_front p (b ∷ bs) rest all stop =
    rw (and_first (p b) (list_all p bs) all) (ap (λ r. b ∷ r) (run_front p bs rest (and_second (p b) (list_all p bs) all) stop))

pub after_front : (p : ℕ → Bool) (bs rest : List ℕ) → list_all p bs ≡ true → Stops p rest → after_run p (bs ++ rest) ≡ rest
unfolding after_run
after_front p [] [] all stop = refl
after_front p [] (r ∷ rest) all stop = ap (λ t. cond t (after_run p rest) (r ∷ rest)) stop
after_front p (b ∷ bs) rest all stop =
    rw (and_first (p b) (list_all p bs) all) (after_front p bs rest (and_second (p b) (list_all p bs) all) stop)
