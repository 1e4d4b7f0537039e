-- How the lines of a message are printed, one after another.
use Rattle.std.proofs.Common.{◌≡◌, ◌≢◌, ◌<◌, ℕ, zero, suc, List, [], ◌∷◌, ◌++◌, Bool, length, get_or, cond, ap, refl, sym, codes, ◌∙◌, arith}
use Rattle.std.specs.List.{flat_map}
use Rattle.std.proofs.lemmas.List.{append_assoc}
use Rattle.std.proofs.lemmas.Bool.{ne_eqb}
use Rattle.std.proofs.lemmas.Grind.{flat_map-append}
use Rattle.isle_syntax.specs.Errors.{indented, indented_byte, indented_lines}

-- a text without a newline is printed as it is
pub unbroken_line : (line : List ℕ) → ((i : ℕ) → i < length line → get_or line i 0 ≢ 10) → flat_map indented_byte line ≡ line
unbroken_line [] unbroken = refl
unbroken_line (byte ∷ line) unbroken =
    let same : flat_map indented_byte line ≡ line = unbroken_line line (λ i h. unbroken (suc i) (omega arith)) in
    let plain : indented_byte byte ≡ byte ∷ [] = ap (λ (b : Bool). byte ∷ cond b (codes "  ") []) (ne_eqb byte 10 (unbroken zero (omega arith))) in
    ap (λ (xs : List ℕ). xs ++ flat_map indented_byte line) plain ∙ ap (λ (ys : List ℕ). byte ∷ ys) same

-- a text that a newline cuts
pub cut_lines : (line others text : List ℕ) → ((i : ℕ) → i < length line → get_or line i 0 ≢ 10) → text ≡ line ++ (10 ∷ others)
    → flat_map indented_byte text ≡ line ++ (10 ∷ 32 ∷ 32 ∷ flat_map indented_byte others)
cut_lines line others text unbroken cut =
    ap (flat_map indented_byte) cut ∙ (flat_map-append indented_byte line (10 ∷ others)
    ∙ ap (λ (xs : List ℕ). xs ++ (10 ∷ 32 ∷ 32 ∷ flat_map indented_byte others)) (unbroken_line line unbroken))

-- a cut text's first line, and the lines behind it, are its lines
pub first_printed : (line others text : List ℕ) → ((i : ℕ) → i < length line → get_or line i 0 ≢ 10) → text ≡ line ++ (10 ∷ others)
    → indented line ++ indented_lines others ≡ indented_lines text
first_printed line others text unbroken cut =
    let behind : List ℕ = flat_map indented_byte others in
    let parted = append_assoc line (10 ∷ []) (indented_lines others) in
    let joined = append_assoc line (10 ∷ 32 ∷ 32 ∷ behind) (10 ∷ []) in
    ap (λ (xs : List ℕ). 32 ∷ 32 ∷ xs) (parted ∙ sym joined) ∙ ap indented (sym (cut_lines line others text unbroken cut))

-- what was printed before, a cut text's first line, and the lines behind it
pub next_printed : (done line others text whole : List ℕ) → ((i : ℕ) → i < length line → get_or line i 0 ≢ 10) → text ≡ line ++ (10 ∷ others)
    → done ++ indented_lines text ≡ whole → (done ++ indented line) ++ indented_lines others ≡ whole
next_printed done line others text whole unbroken cut so_far =
    append_assoc done (indented line) (indented_lines others)
    ∙ (ap (λ (xs : List ℕ). done ++ xs) (first_printed line others text unbroken cut) ∙ so_far)
