-- Lists of definitions of one kind, as a loop over definitions makes them.
use Rattle.std.proofs.Common.{◌≡◌, ℕ, ◌+◌, ◌<◌, List, [], ◌∷◌, ◌++◌, map, length, take, get_or, Option, Some, None, Bor, slice_get, refl, ap, sym}
use Rattle.std.proofs.Common.{◌∙◌}
use Rattle.std.specs.List.{filter_map, cons_option}
use Rattle.std.specs.Option.{option_map, option_copied, option_and_then}
use Rattle.std.proofs.lemmas.List.{map-append, append-nil}
use Rattle.std.proofs.lemmas.List.Elements.{filter_map-append}
use Rattle.isle_containers.proofs.Lists.{taken_more}
use Rattle.isle_types.proofs.DefinitionTurns.{passed_over, taken_up, take_here}

-- one more is of the kind
pub listed_more : {X Y Z : Type 0} (kind : X → Option Y) (shown : Z → Y) (xs : List X) (i : ℕ) (x : X) (old new : List Z) (z : Z)
    → i < length xs → x ≡ get_or xs i x → kind x ≡ Some (shown z) → new ≡ old ++ z ∷ [] → map shown old ≡ filter_map kind (take i xs)
    → map shown new ≡ filter_map kind (take (i + 1) xs)
listed_more kind shown xs i x old new z low is some more before =
    ap (map shown) more ∙ map-append shown old (z ∷ []) ∙ ap (λ ys. ys ++ shown z ∷ []) before ∙ sym (taken_up kind xs i x (shown z) low is some)

-- the next is of another kind
pub listed_same : {X Y Z : Type 0} (kind : X → Option Y) (shown : Z → Y) (xs : List X) (i : ℕ) (x : X) (old new : List Z)
    → i < length xs → x ≡ get_or xs i x → kind x ≡ None → new ≡ old → map shown old ≡ filter_map kind (take i xs)
    → map shown new ≡ filter_map kind (take (i + 1) xs)
listed_same kind shown xs i x old new low is none same before =
    ap (map shown) same ∙ before ∙ sym (passed_over kind xs i x low is none)

-- what no reference points to
pub not_copied : {X : Type 0} (o : Option (Bor X)) (p : Option X) → option_copied o ≡ p → ((x : Bor X) → o ≡ Some x → ⊥) → p ≡ None
not_copied None p is other = sym is
not_copied (Some x) p is other = absurd (other x refl)

-- what nothing stands for
pub not_mapped : {X Y : Type 0} (shown : X → Y) (o : Option X) (p : Option Y) → option_map shown o ≡ p → ((x : X) → o ≡ Some x → ⊥) → p ≡ None
not_mapped shown None p is other = sym is
not_mapped shown (Some x) p is other = absurd (other x refl)

-- what is made of what is made of items
pub filter_map-twice : {X Y Z : Type 0} (f : X → Option Y) (g : Y → Option Z) (xs : List X)
    → filter_map g (filter_map f xs) ≡ filter_map (λ x. option_and_then g (f x)) xs
filter_map-twice f g [] = refl
filter_map-twice {X} {Y} {Z} f g (x ∷ xs) = by_head (f x) (filter_map-twice f g xs)
  where
    by_head : (o : Option Y) → filter_map g (filter_map f xs) ≡ filter_map (λ y. option_and_then g (f y)) xs
        → filter_map g (cons_option o (filter_map f xs)) ≡ cons_option (option_and_then g o) (filter_map (λ y. option_and_then g (f y)) xs)
    by_head None later = later
    by_head (Some y) later = ap (cons_option (g y)) later

-- what is made of the items so far and the next one, which is of the kind
pub kind_more : {X Y : Type 0} (kind : X → Option Y) (xs : List X) (i : ℕ) (x : X) (y : Y) → slice_get xs i ≡ Some x → kind x ≡ Some y
    → filter_map kind (take (i + 1) xs) ≡ filter_map kind (take i xs) ++ y ∷ []
kind_more kind xs i x y at some =
    ap (filter_map kind) (taken_more xs i x at) ∙ filter_map-append kind (take i xs) (x ∷ [])
    ∙ ap (λ o. filter_map kind (take i xs) ++ cons_option o []) some

-- or of another
pub kind_same : {X Y : Type 0} (kind : X → Option Y) (xs : List X) (i : ℕ) (x : X) → slice_get xs i ≡ Some x → kind x ≡ None
    → filter_map kind (take (i + 1) xs) ≡ filter_map kind (take i xs)
kind_same kind xs i x at none =
    ap (filter_map kind) (taken_more xs i x at) ∙ filter_map-append kind (take i xs) (x ∷ [])
    ∙ ap (λ o. filter_map kind (take i xs) ++ cons_option o []) none ∙ append-nil (filter_map kind (take i xs))

-- one more is made of the next item
pub mapped_more : {X Y Z : Type 0} (shown : Z → Y) (f : X → Y) (xs : List X) (i : ℕ) (x : X) (old new : List Z) (z : Z) → i < length xs
    → x ≡ get_or xs i x → new ≡ old ++ z ∷ [] → shown z ≡ f x → map shown old ≡ map f (take i xs) → map shown new ≡ map f (take (i + 1) xs)
mapped_more shown f xs i x old new z low is more same before =
    ap (map shown) more ∙ map-append shown old (z ∷ []) ∙ ap (λ ys. ys ++ shown z ∷ []) before ∙ ap (λ y. map f (take i xs) ++ y ∷ []) same
    ∙ sym (map-append f (take i xs) (x ∷ [])) ∙ ap (map f) (sym (take_here xs i x low is))
