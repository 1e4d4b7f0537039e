-- Which lines are shown.
use Rattle.std.proofs.Common.{◌≡◌, ℕ, ◌+◌, ◌<◌, List, [], ◌∷◌, ◌++◌, length, take, drop, get_or, Bool, true, false, cond, refl, ap, sym, ◌∙◌, map, min, arith}
use Rattle.std.proofs.Common.{append_assoc, add-one}
use Rattle.std.specs.Prelude.{◌||◌}
use Rattle.std.specs.List.{list_any}
use Rattle.std.proofs.lemmas.List.{append-nil, take-map}
use Rattle.std.proofs.Math.Seq.{drop-cons}
use Rattle.isle_layout.specs.declared.changes.script.Step.{Step}
use Rattle.isle_layout.specs.declared.changes.hunks.Place.{Place}
use Rattle.isle_layout.specs.Changes.Scripts.{Edit}
use Rattle.isle_layout.specs.Changes.Hunks.{is_change, is_shown, behind, hunk_end, hunk_header, hunks, line_text}
use Rattle.isle_layout.specs.Inside.Changes.{edit_of}

-- the first four, or fewer where there are fewer
pub first_four : {A : Type 0} (xs : List A) → take (min (length xs) 4) xs ≡ take 4 xs
first_four [] = refl
first_four (a ∷ []) = refl
first_four (a ∷ b ∷ []) = refl
first_four (a ∷ b ∷ c ∷ []) = refl
first_four (a ∷ b ∷ c ∷ d ∷ xs) =
    ap (λ n. take n (a ∷ b ∷ c ∷ d ∷ xs)) (let four : min (length (a ∷ b ∷ c ∷ d ∷ xs)) 4 ≡ 4 = omega arith in four)

-- whether a line that stays is shown, by the four from it on
pub shown_by_near : (steps : List Step)
    → list_any is_change (map edit_of (take (min (length steps) 4) steps)) ≡ list_any is_change (take 4 (map edit_of steps))
shown_by_near steps = ap (λ s. list_any is_change (map edit_of s)) (first_four steps) ∙ ap (list_any is_change) (sym (take-map edit_of 4 steps))

-- the steps from one on are that one and those behind it
pub steps_left : (steps : List Step) (i : ℕ) (d : Step) → i < length steps
    → map edit_of (drop i steps) ≡ edit_of (get_or steps i d) ∷ map edit_of (drop (i + 1) steps)
steps_left steps i d within =
    ap (map edit_of) (drop-cons steps i d within) ∙ ap (λ n. edit_of (get_or steps i d) ∷ map edit_of (drop n steps)) (sym (add-one i))

-- a hunk goes on with a line that is shown
pub hunk_end-shown : (place : Place) (script rest : List Edit) (e : Edit) → script ≡ e ∷ rest → is_shown place script ≡ true
    → hunk_end place script ≡ hunk_end (behind place e.mark) rest
hunk_end-shown place script rest e is shown =
    ap (hunk_end place) is ∙ ap (λ b. cond b (hunk_end (behind place e.mark) rest) place) (ap (is_shown place) (sym is) ∙ shown)

-- a hunk ends before a line that isn't shown
pub hunk_end-hidden : (place : Place) (script : List Edit) → is_shown place script ≡ false → hunk_end place script ≡ place
hunk_end-hidden place [] hidden = refl
hunk_end-hidden place (e ∷ es) hidden = ap (λ b. cond b (hunk_end (behind place e.mark) es) place) hidden

-- what is written of one line, by whether the one before is shown, and it
abbrev pub step_text : (was_shown shown : Bool) → Place → List Edit → Edit → List ℕ
step_text was_shown shown place script e = cond shown (cond was_shown [] (hunk_header place script) ++ line_text e) []

-- a line that isn't shown
pub wrote_nothing : (was_shown shown : Bool) (place : Place) (script : List Edit) (e : Edit) (out more : List ℕ)
    → shown ≡ false → more ≡ out → more ≡ out ++ step_text was_shown shown place script e
wrote_nothing was_shown shown place script e out more hidden is =
    is ∙ sym (append-nil out) ∙ ap (λ b. out ++ step_text was_shown b place script e) (sym hidden)

-- a line that is shown behind another
pub wrote_line : (was_shown shown : Bool) (place : Place) (script : List Edit) (e : Edit) (out more : List ℕ)
    → shown ≡ true → was_shown ≡ true → more ≡ out ++ line_text e → more ≡ out ++ step_text was_shown shown place script e
wrote_line was_shown shown place script e out more here before is =
    is ∙ ap (λ b. out ++ step_text b true place script e) (sym before) ∙ ap (λ b. out ++ step_text was_shown b place script e) (sym here)

-- the first line of a hunk
pub wrote_first : (was_shown shown : Bool) (place : Place) (script : List Edit) (e : Edit) (out middle more : List ℕ)
    → shown ≡ true → was_shown ≡ false → middle ≡ out ++ hunk_header place script → more ≡ middle ++ line_text e
    → more ≡ out ++ step_text was_shown shown place script e
wrote_first was_shown shown place script e out middle more here before header is =
    is ∙ ap (λ m. m ++ line_text e) header ∙ append_assoc out (hunk_header place script) (line_text e)
    ∙ ap (λ b. out ++ step_text b true place script e) (sym before) ∙ ap (λ b. out ++ step_text was_shown b place script e) (sym here)

-- one line more is written
pub written_more : (was_shown shown : Bool) (place : Place) (script rest : List Edit) (e : Edit) (out more all : List ℕ)
    → script ≡ e ∷ rest → is_shown place script ≡ shown → more ≡ out ++ step_text was_shown shown place script e
    → out ++ hunks was_shown place script ≡ all → more ++ hunks shown (behind place e.mark) rest ≡ all
written_more was_shown shown place script rest e out more all is by wrote so_far =
    let here = ap (is_shown place) (sym is) ∙ by in
    let step : hunks was_shown place script ≡ step_text was_shown shown place script e ++ hunks shown (behind place e.mark) rest =
    ap (hunks was_shown place) is
    ∙ ap (λ b. step_text was_shown b place (e ∷ rest) e ++ hunks b (behind place e.mark) rest) here
    ∙ ap (λ s. step_text was_shown shown place s e ++ hunks shown (behind place e.mark) rest) (sym is) in
    ap (λ m. m ++ hunks shown (behind place e.mark) rest) wrote
    ∙ append_assoc out (step_text was_shown shown place script e) (hunks shown (behind place e.mark) rest)
    ∙ ap (λ m. out ++ m) (sym step) ∙ so_far
