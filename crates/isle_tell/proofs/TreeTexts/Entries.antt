-- The entries of a sorted map in turn, and what is printed of them.
use Rattle.std.proofs.Common.{◌≡◌, ◌++◌, ◌+◌, ◌<◌, ◌∙◌, ℕ, List, [], ◌∷◌, Option, Some, Bor, get_or, take, length, slice_get, sym, ap}
use Rattle.std.specs.List.{flat_map}
use Rattle.std.specs.Option.{option_map}
use Rattle.std.proofs.lemmas.Option.{get_or_from_slice_get}
use Rattle.std.proofs.lemmas.List.{append-nil, append_assoc, take_more}
use Rattle.std.proofs.lemmas.List.Concat.{flat_map-append}
use Rattle.isle_blocks.specs.declared.ids.BindingId.{BindingId}
use Rattle.isle_blocks.specs.declared.constraint.Constraint.{Constraint}
use Rattle.isle_blocks.specs.Rules.{Tests}

-- what one item more adds
pub flat_step : {A B : Type 0} (f : A → List B) (xs : List A) (i : ℕ) (d : A) (first old new : List B) → i < length xs
    → old ≡ first ++ flat_map f (take i xs) → new ≡ old ++ f (get_or xs i d) → new ≡ first ++ flat_map f (take (i + 1) xs)
flat_step f xs i d first old new l e n =
    n ∙ ap (λ l. l ++ f (get_or xs i d)) e ∙ append_assoc first (flat_map f (take i xs)) (f (get_or xs i d))
    ∙ ap (λ l. first ++ l) (sym (ap (flat_map f) (take_more xs i d l)
    ∙ flat_map-append f (take i xs) (get_or xs i d ∷ [])
    ∙ ap (λ l. flat_map f (take i xs) ++ l) (append-nil (f (get_or xs i d)))))

-- what was read at a place of a sorted map
pub entry_is : (tests : Tests) (i : ℕ) (o : Option (Bor BindingId × Bor Constraint)) (e : Bor BindingId × Bor Constraint)
    → option_map (λ p. (p.0.now, p.1.now)) o ≡ slice_get tests i → o ≡ Some e → (d : BindingId × Constraint)
    → get_or tests i d ≡ (e.0.now, e.1.now)
entry_is tests i o e read is d = get_or_from_slice_get tests i _ d (sym read ∙ ap (option_map (λ p. (p.0.now, p.1.now))) is)
