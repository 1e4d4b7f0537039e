-- The longest run of bytes of one kind, and what follows it.
use Rattle.std.proofs.Common.{◌≡◌, ℕ, ◌-◌, ◌≤◌, List, [], ◌∷◌, ◌++◌, length, take, drop, Bool, true, false, cond, refl, ap, ◌∙◌, length-append, arith}
use Rattle.isle_syntax.specs.Tokens.Gaps.{after_run, run_of}

whole_case : (p : ℕ → Bool) (b : ℕ) (bs : List ℕ) (t : Bool) → bs ≡ run_of p bs ++ after_run p bs
    → b ∷ bs ≡ cond t (b ∷ run_of p bs) [] ++ cond t (after_run p bs) (b ∷ bs)
whole_case p b bs true h = ap (λ k. b ∷ k) h
whole_case p b bs false h = refl

-- a text is its run and what follows it
pub run_whole : (p : ℕ → Bool) (bs : List ℕ) → bs ≡ run_of p bs ++ after_run p bs
unfolding run_of after_run
run_whole p [] = refl
run_whole p (b ∷ bs) = whole_case p b bs (p b) (run_whole p bs)

pub after_run-le : (p : ℕ → Bool) (bs : List ℕ) → length (after_run p bs) ≤ length bs
after_run-le p bs = omega (arith, ap length (run_whole p bs), length-append (run_of p bs) (after_run p bs))

pub after_run-step : (p : ℕ → Bool) (b : ℕ) (bs : List ℕ) → p b ≡ true → after_run p (b ∷ bs) ≡ after_run p bs
unfolding after_run
after_run-step p b bs e = ap (λ t. cond t (after_run p bs) (b ∷ bs)) e

pub take_front : (u v : List ℕ) → take (length u) (u ++ v) ≡ u
take_front [] v = refl
take_front (t ∷ u) v = ap (λ k. t ∷ k) (take_front u v)

drop_front : (u v : List ℕ) → drop (length u) (u ++ v) ≡ v
drop_front [] v = refl
drop_front (t ∷ u) v = drop_front u v

-- cut at the length of what follows the run
pub run_taken : (p : ℕ → Bool) (bs : List ℕ) → take (length bs - length (after_run p bs)) bs ≡ run_of p bs
run_taken p bs =
    let w = run_whole p bs in
    let k : length bs - length (after_run p bs) ≡ length (run_of p bs) = omega (arith, ap length w, length-append (run_of p bs) (after_run p bs)) in
    (λ i. take (k i) (w i)) ∙ take_front (run_of p bs) (after_run p bs)

pub run_dropped : (p : ℕ → Bool) (bs : List ℕ) → drop (length bs - length (after_run p bs)) bs ≡ after_run p bs
run_dropped p bs =
    let w = run_whole p bs in
    let k : length bs - length (after_run p bs) ≡ length (run_of p bs) = omega (arith, ap length w, length-append (run_of p bs) (after_run p bs)) in
    (λ i. drop (k i) (w i)) ∙ drop_front (run_of p bs) (after_run p bs)
