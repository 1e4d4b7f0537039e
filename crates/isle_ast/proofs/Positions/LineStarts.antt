-- The starts of a text's lines rise, and those up to an offset are as many as the newlines below it.
use Rattle.std.proofs.Common.{◌≡◌, ℕ, zero, suc, ◌+◌, ◌<◌, ◌≤◌, Bool, true, false, List, [], ◌∷◌, length, get_or, take, map, nat_le, Option, Some}
use Rattle.std.proofs.Common.{IfSome, refl, ap, subst, sym, ◌∙◌, ◌⊎◌, inl, inr, arith, add-one}
use Rattle.std.specs.List.{filter, enumerate_from, AllWithin}
use Rattle.std.specs.List.Sorted.{IsStrictlyIncreasing, IsPartitionPoint, IsPartitionedBy}
use Rattle.std.proofs.lemmas.Bool.Decides.{nat_tests}
use Rattle.std.proofs.lemmas.List.{get_or_default}
use Rattle.std.proofs.lemmas.List.Sums.{length-filter}
use Rattle.std.proofs.lemmas.List.Sorted.{IsNonDecreasingBy-from_all_adjacent, IsPartitionedBy-leb}
use Rattle.isle_ast.specs.Positions.Files.{SourceFile}
use Rattle.isle_ast.specs.Positions.Lines.{is_newline, line_starts, starts_up_to, newlines_before}

true_or_false : (b : Bool) → (b ≡ true) ⊎ (b ≡ false)
true_or_false true = inl refl
true_or_false false = inr refl

-- the offsets after the newlines of a text that begins at an offset
abbrev starts_from : ℕ → List ℕ → List ℕ
starts_from at text = map (λ x. x.0 + 1) (filter (λ x. is_newline x.1) (enumerate_from at text))

-- each number is above the one before it, and the first one above `low`
abbrev Rises : ℕ → List ℕ → Type 0
Rises low [] = Unit {0}
Rises low (x ∷ xs) = (low < x) × Rises x xs

rises : (low at : ℕ) (text : List ℕ) → low ≤ at → Rises low (starts_from at text)
rises low at [] h = tt
rises low at (b ∷ bs) h = elim (true_or_false (is_newline b)) [
  | inl e ↦ rw e (omega arith, rises (at + 1) (at + 1) bs (omega arith))
  | inr e ↦ rw e (rises low (at + 1) bs (omega arith))
]

increasing_from_rises : (low : ℕ) (xs : List ℕ) → Rises low xs → (k : ℕ) → k + 1 < length xs → get_or xs k 0 < get_or xs (k + 1) 0
increasing_from_rises low [] r k h = absurd (omega arith)
increasing_from_rises low (x ∷ []) r k h = absurd (omega arith)
increasing_from_rises low (x ∷ y ∷ ys) r zero h = r.1.0
increasing_from_rises low (x ∷ y ∷ ys) r (suc k) h =
    let rest : get_or (y ∷ ys) k 0 < get_or (y ∷ ys) (k + 1) 0 = increasing_from_rises x (y ∷ ys) r.1 k (omega arith) in
    rw add-one (rw add-one at rest)

pub line_starts_increase : (text : List ℕ) → IsStrictlyIncreasing (line_starts text)
line_starts_increase text = increasing_from_rises 0 (line_starts text) (rises 0 0 text (omega arith))

none_up_to : (at : ℕ) (text : List ℕ) (offset : ℕ) → offset ≤ at → length (filter (λ s. nat_le s offset) (starts_from at text)) ≡ 0
none_up_to at [] offset h = refl
none_up_to at (b ∷ bs) offset h =
    let rest = none_up_to (at + 1) bs offset (omega arith) in
    let past : nat_le (at + 1) offset ≡ false = grind (arith, nat_tests) in
    elim (true_or_false (is_newline b)) [ inl e ↦ rw (e, past) rest | inr e ↦ rw e rest ]

as_many : (at : ℕ) (text : List ℕ) (n offset : ℕ) → offset ≡ at + n
    → length (filter (λ s. nat_le s offset) (starts_from at text)) ≡ length (filter is_newline (take n text))
as_many at text zero offset h = none_up_to at text offset (omega arith)
as_many at [] (suc n) offset h = refl
as_many at (b ∷ bs) (suc n) offset h =
    let rest = as_many (at + 1) bs n offset (omega arith) in
    let here : nat_le (at + 1) offset ≡ true = grind (arith, nat_tests) in
    elim (true_or_false (is_newline b)) [ inl e ↦ rw (e, here) (ap suc rest) | inr e ↦ rw e rest ]

pub starts_are_counted : (text : List ℕ) (offset : ℕ) → starts_up_to (line_starts text) offset ≡ newlines_before text offset
starts_are_counted text offset = sym (length-filter (λ s. nat_le s offset) (line_starts text))
    ∙ (as_many 0 text offset offset (omega arith) ∙ length-filter is_newline (take offset text))

-- a partition point is the number of the elements that pass
point_is_count : (p : ℕ → Bool) (xs : List ℕ) (n : ℕ) → n ≤ length xs → AllWithin (λ x. p x ≡ true) xs 0 n
    → AllWithin (λ x. p x ≡ false) xs n (length xs) → n ≡ length (filter p xs)
point_is_count p [] n h holds fails = omega arith
point_is_count p (x ∷ xs) zero h holds fails =
    let here : p x ≡ false = fails 0 0 (omega arith) (omega arith) in
    rw here (point_is_count p xs zero (omega arith) (λ k d l u. absurd (omega arith)) (λ k d l u. fails (suc k) d (omega arith) (omega arith)))
point_is_count p (x ∷ xs) (suc n) h holds fails =
    let here : p x ≡ true = holds 0 0 (omega arith) (omega arith) in
    rw here (ap suc (point_is_count p xs n (omega arith) (λ k d l u. holds (suc k) d (omega arith) (omega arith))
    (λ k d l u. fails (suc k) d (omega arith) (omega arith))))

pub starts_are_parted : (starts : List ℕ) (offset : ℕ) → IsStrictlyIncreasing starts → IsPartitionedBy (λ s. nat_le s offset) starts
starts_are_parted starts offset rise =
    IsPartitionedBy-leb (λ s. s) starts offset (IsNonDecreasingBy-from_all_adjacent (λ s. s) starts
    (λ k d h. omega (arith, rise k h, get_or_default starts k d 0 (omega arith), get_or_default starts (k + 1) d 0 (omega arith))))

pub point_is_starts_up_to : (starts : List ℕ) (offset n : ℕ) → n ≤ length starts
    → IsPartitionPoint (λ s. nat_le s offset ≡ true) (λ s. nat_le s offset ≡ false) starts n → n ≡ starts_up_to starts offset
point_is_starts_up_to starts offset n h point =
    point_is_count (λ s. nat_le s offset) starts n h point.0 point.1 ∙ length-filter (λ s. nat_le s offset) starts

-- what the starts of a file's text count
pub counts_of_file : (found : Option SourceFile) (file : SourceFile) (starts : List ℕ) → Some file ≡ found → starts ≡ line_starts file.text
    → IfSome found (λ f. (p : ℕ) → starts_up_to starts p ≡ newlines_before f.text p)
counts_of_file found file starts here same =
    let counted = λ (p : ℕ). ap (λ s. starts_up_to s p) same ∙ starts_are_counted file.text p in
    subst (λ (o : Option SourceFile). IfSome o (λ f. (p : ℕ) → starts_up_to starts p ≡ newlines_before f.text p)) here counted

tail_is_parted : (p : ℕ → Bool) (x : ℕ) (xs : List ℕ) → IsPartitionedBy p (x ∷ xs) → IsPartitionedBy p xs
tail_is_parted p x xs parted = λ i j d le l t. parted (suc i) (suc j) d (omega arith) (omega arith) t

none_pass : (p : ℕ → Bool) (x : ℕ) (xs : List ℕ) → IsPartitionedBy p (x ∷ xs) → p x ≡ false → 0 ≡ length (filter p xs)
none_pass p x xs parted e = point_is_count p xs 0 (omega arith) (λ i d l u. absurd (omega arith)) (λ i d l u.
    elim (true_or_false (p (get_or xs i d))) [ inl t ↦ let first : p x ≡ true = parted 0 (suc i) d (omega arith) (omega arith) t in cc | inr f ↦ f ])

-- where no element that passes comes after one that fails, the first ones pass
pass_up_to_count : (p : ℕ → Bool) (xs : List ℕ) (k : ℕ) → IsPartitionedBy p xs → k < length (filter p xs) → p (get_or xs k 0) ≡ true
pass_up_to_count p [] k parted h = absurd (omega arith)
pass_up_to_count p (x ∷ xs) zero parted h = elim (true_or_false (p x)) [
  | inl e ↦ e
  | inr e ↦ let none = none_pass p x xs parted e in let some = rw e at h in absurd (omega arith)
]
pass_up_to_count p (x ∷ xs) (suc k) parted h = elim (true_or_false (p x)) [
  | inl e ↦ let some = rw e at h in pass_up_to_count p xs k (tail_is_parted p x xs parted) (omega arith)
  | inr e ↦ let none = none_pass p x xs parted e in let some = rw e at h in absurd (omega arith)
]

pub counted_start_is_below : (starts : List ℕ) (offset k : ℕ) → IsStrictlyIncreasing starts → k < starts_up_to starts offset
    → get_or starts k 0 ≤ offset
counted_start_is_below starts offset k rise h =
    let passes : nat_le (get_or starts k 0) offset ≡ true =
    pass_up_to_count (λ s. nat_le s offset) starts k (starts_are_parted starts offset rise) (rw (length-filter (λ s. nat_le s offset) starts) h)
    in
    grind (arith, nat_tests)
