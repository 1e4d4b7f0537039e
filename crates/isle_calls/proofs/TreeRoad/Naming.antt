-- The texts of symbols: the longest name, and zeros.
use Rattle.std.proofs.Common.{◌≡◌, ◌↔◌, ◌<◌, ◌≤◌, ◌+◌, ◌&&◌, ℕ, zero, suc, Bool, true, false, List, String, [], ◌∷◌, Option, Some, None, map, max, drop, length, get_or, replicate, slice_get, refl, sym, ap, subst, ◌∙◌, IsTrue, nat_eq, arith}
use Rattle.std.specs.List.{list_all}
use Rattle.std.specs.Prelude.{unwrap_or, string_bytes}
use Rattle.std.specs.Global.{Global}
use Rattle.std.specs.Option.{option_map}
use Rattle.std.proofs.Math.Seq.{drop-cons}
use Rattle.std.proofs.lemmas.Bool.{eqb-true}
use Rattle.std.proofs.lemmas.Option.{slice_get-map}
use Rattle.isle_types.specs.declared.ids.Sym.{Sym}
use Rattle.isle_blocks.specs.Building.Naming.{longest_of, text_beyond, name_by}

larger : (a b c e f : ℕ) → c ≡ e → f ≡ max b e → max (max a b) c ≡ max a f
larger a b c e f p q = omega arith

-- the longest of names is the longest so far, the next one, or one of the others
pub longest_next : {X : Type 0} (text : X → List ℕ) (names : List X) (i j : ℕ) (d : X) (most : ℕ) → i < length names → j ≡ suc i
    → max (max most (length (text (get_or names i d)))) (longest_of (map text (drop j names))) ≡ max most (longest_of (map text (drop i names)))
longest_next {X = X} text names i j d most low next =
    let parted : longest_of (map text (drop i names)) ≡ max (length (text (get_or names i d))) (longest_of (map text (drop (suc i) names))) =
    ap (λ (l : List X). longest_of (map text l)) (drop-cons names i d low) in
    let here : longest_of (map text (drop j names)) ≡ longest_of (map text (drop (suc i) names)) =
    ap (λ (k : ℕ). longest_of (map text (drop k names))) next in
    larger most (length (text (get_or names i d))) (longest_of (map text (drop j names))) (longest_of (map text (drop (suc i) names)))
    (longest_of (map text (drop i names))) here parted

-- past the names none is left
pub none_left : {X : Type 0} (names : List X) (i : ℕ) → length names ≤ i → drop i names ≡ []
none_left [] zero past = refl
none_left [] (suc i) past = refl
none_left (x ∷ names) zero past = absurd (omega arith)
none_left (x ∷ names) (suc i) past = let low : length names ≤ i = omega arith in none_left names i low

both_left : (a b : Bool) → (a && b) ≡ true → a ≡ true
both_left true b t = refl
both_left false b t = t

both_right : (a b : Bool) → (a && b) ≡ true → b ≡ true
both_right true b t = t
both_right false b t = absurd cc

-- bytes that are all zero
zeros_are : (bytes : List ℕ) → IsTrue (list_all (λ (b : ℕ). nat_eq b 0) bytes) → replicate (length bytes) 0 ≡ bytes
zeros_are [] t = refl
zeros_are (b ∷ bytes) t =
    let rest = list_all (λ (x : ℕ). nat_eq x 0) bytes in
    let here : b ≡ 0 = eqb-true b 0 (both_left (nat_eq b 0) rest t) in
    ap (λ (x : ℕ). x ∷ replicate (length bytes) 0) (sym here) ∙ ap (λ (l : List ℕ). b ∷ l) (zeros_are bytes (both_right (nat_eq b 0) rest t))

all_zeros : (n : ℕ) → IsTrue (list_all (λ (b : ℕ). nat_eq b 0) (replicate n 0))
all_zeros zero = refl
all_zeros (suc n) = all_zeros n

-- a text of the length of a symbol's own is that text where it has only zeros
pub beyond_zeros : (names : List (List ℕ)) (symbol : Sym) (bytes : List ℕ) (t : Bool) → length bytes ≡ longest_of names + 1 + symbol.0
    → t ≡ list_all (λ (b : ℕ). nat_eq b 0) bytes → IsTrue t ↔ (text_beyond names symbol ≡ bytes)
beyond_zeros names symbol bytes t size is = (
  λ yes. ap (λ (n : ℕ). replicate n 0) (sym size) ∙ zeros_are bytes (sym is ∙ yes),
  λ same. is ∙ ap (list_all (λ (b : ℕ). nat_eq b 0)) (sym same) ∙ all_zeros (longest_of names + 1 + symbol.0),
)

-- the name of a symbol that has one, and of one that hasn't
pub name_there : (names : List (List ℕ)) (symbol : Sym) (text name : List ℕ) (t : Bool) → slice_get names symbol.0 ≡ Some name
    → IsTrue t ↔ (name ≡ text) → IsTrue t ↔ (name_by names symbol ≡ text)
name_there names symbol text name t there decided =
    subst (λ (l : List ℕ). IsTrue t ↔ (l ≡ text)) (sym (ap (λ (o : Option (List ℕ)). unwrap_or o (text_beyond names symbol)) there)) decided

pub name_beyond : (names : List (List ℕ)) (symbol : Sym) (text : List ℕ) (t : Bool) → slice_get names symbol.0 ≡ None
    → IsTrue t ↔ (text_beyond names symbol ≡ text) → IsTrue t ↔ (name_by names symbol ≡ text)
name_beyond names symbol text t there decided =
    subst (λ (l : List ℕ). IsTrue t ↔ (l ≡ text)) (sym (ap (λ (o : Option (List ℕ)). unwrap_or o (text_beyond names symbol)) there)) decided

-- what is at the place of a symbol
pub text_at : (names : List (List ℕ)) (texts : List (String Global)) (symbol place : ℕ) (o : Option (String Global)) → map string_bytes texts ≡ names
    → place ≡ symbol → slice_get texts place ≡ o → slice_get names symbol ≡ option_map string_bytes o
text_at names texts symbol place o same at e =
    subst (λ (l : List (List ℕ)). slice_get l symbol ≡ option_map string_bytes o) same
    (subst (λ (i : ℕ). slice_get (map string_bytes texts) i ≡ option_map string_bytes o) at
    (slice_get-map string_bytes texts place ∙ ap (λ (x : Option (String Global)). option_map string_bytes x) e))
