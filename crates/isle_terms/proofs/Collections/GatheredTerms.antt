-- What adds one item at each of its calls while it isn't refused has an item for each of them, unless it is refused.
use Rattle.std.proofs.Common.{◌≡◌, List, [], ◌∷◌, ◌++◌, map, Bool, false, ap, sym, ◌∙◌, append_assoc, append-nil}
use Rattle.std.specs.List.{FoldsTo}

module _ {A P X G : Type 0} (R : P → A → P → Type 0) (refused : P → Bool) (items : P → List X) (kept : P → G) (item : A → X)
    (adds : (p : P) (x : A) (q : P) → R p x q
    → (refused q ≡ false → (refused p ≡ false) × (items q ≡ items p ++ item x ∷ [])) × (kept q ≡ kept p)) where
  -- what holds once everything is added
  pub gathered : (xs : List A) (p q : P) → FoldsTo R p xs q
      → (refused q ≡ false → (refused p ≡ false) × (items q ≡ items p ++ map item xs)) × (kept q ≡ kept p)
  gathered [] p q calls = (λ h. (ap refused calls ∙ h, sym (append-nil (items p) ∙ ap items calls)), sym (ap kept calls))
  gathered (x ∷ xs) p q calls =
      let one = adds p x calls.0 calls.1 in
      let others = gathered xs calls.0 q calls.2 in (
        λ h.
            let end = others.0 h in
            let first = one.0 end.0 in
            (first.0, end.1 ∙ ap (λ front. front ++ map item xs) first.1 ∙ append_assoc (items p) (item x ∷ []) (map item xs)),
        others.1 ∙ one.1,
      )
