-- Calls at the terms of one after another are calls at the terms of all.
use Rattle.std.proofs.Common.{◌≡◌, ◌<◌, ℕ, zero, suc, List, [], ◌∷◌, ◌++◌, length, take, get_or, refl, sym, subst, ap, ◌∙◌, arith}
use Rattle.std.specs.List.{FoldsTo}

module _ {P A : Type 0} (R : P → A → P → Type 0) where
  pub joined : (xs ys : List A) (p q r : P) → FoldsTo R p xs q → FoldsTo R q ys r → FoldsTo R p (xs ++ ys) r
  joined [] ys p q r first second = subst (λ s. FoldsTo R s ys r) (sym first) second
  joined (x ∷ xs) ys p q r first second =
      (first.0, first.1, joined xs ys first.0 q r first.2 second)

  parted : (xs ys : List A) (p r : P) → FoldsTo R p (xs ++ ys) r → (q : P) × FoldsTo R p xs q × FoldsTo R q ys r
  parted [] ys p r all = (p, refl, all)
  parted (x ∷ xs) ys p r all =
      let rest = parted xs ys all.0 r all.2 in
      (rest.0, (all.0, all.1, rest.1), rest.2)

  -- one element more, where what belongs to a list belongs to its elements in order
  module _ {X : Type 0} (one : X → List A) (all : List X → List A) (none : all [] ≡ []) (more : (x : X) (xs : List X)
      → all (x ∷ xs) ≡ one x ++ all xs) where
    pub called_more : (xs : List X) (i : ℕ) (x : X) (p q r : P) → i < length xs → x ≡ get_or xs i x → FoldsTo R p (all (take i xs)) q
        → FoldsTo R q (one x) r → FoldsTo R p (all (take (suc i) xs)) r
    called_more [] i x p q r low is first second = absurd (omega arith)
    called_more (y ∷ ys) zero x p q r low is first second =
        let start = subst (λ terms. FoldsTo R p terms q) none first in
        let here = subst (λ z. FoldsTo R q (one z) r) is second in
        let last = joined (one y) [] p r r (subst (λ s. FoldsTo R s (one y) r) (sym start) here) refl in
        subst (λ terms. FoldsTo R p terms r) (sym (more y [] ∙ ap (λ terms. one y ++ terms) none)) last
    called_more (y ∷ ys) (suc i) x p q r low is first second =
        let parts = parted (one y) (all (take i ys)) p q (subst (λ terms. FoldsTo R p terms q) (more y (take i ys)) first) in
        let rest = called_more ys i x parts.0 q r (omega arith) is parts.2 second in
        subst (λ terms. FoldsTo R p terms r) (sym (more y (take (suc i) ys))) (joined (one y) (all (take (suc i) ys)) p parts.0 r parts.1 rest)
