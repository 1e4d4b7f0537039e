-- Values are equal or not.
use Rattle.std.proofs.Common.{◌≡◌, ◌⊎◌, inl, inr, ℕ, ℤ, Bool, true, false, List, [], ◌∷◌, ◌==◌, refl, ap}
use Rattle.std.proofs.lemmas.Bool.{eqb-true, eq-eqb}
use Rattle.std.proofs.lemmas.Bool.Decides.{Decides-int_eq}
use Rattle.std.specs.Ordering.{int_eq}
use Rattle.std.specs.Bool.{Decides}
use Rattle.isle_meaning.specs.Values.{Value, bool_value, int_value, constant_value, opaque_value, made_variant, made_struct, Values}
use Rattle.isle_meaning.specs.Got.{Got, unknown, fails, gives}
use Rattle.isle_meaning.specs.Values.{no_values, more_values}
use Rattle.isle_meaning.specs.Held.{Held, held_value, held_outputs, held_none, held_some, held_answers}

abbrev pub Decided : {A : Type 0} → A → A → Type 0
Decided x y = (x ≡ y) ⊎ (x ≡ y → ⊥)

number : (k j : ℕ) → Decided k j
number k j = go (k == j) refl
  where
    go : (b : Bool) → (k == j) ≡ b → Decided k j
    go true e = inl (eqb-true k j e)
    go false e = inr (λ p. let q = eq-eqb k j p in cc)

truth : (a b : Bool) → Decided a b
truth true true = inl refl
truth true false = inr (λ e. cc)
truth false true = inr (λ e. cc)
truth false false = inl refl

integer : (a b : ℤ) → Decided a b
integer a b = go (int_eq a b) (Decides-int_eq a b)
  where
    go : (r : Bool) → Decides r (a ≡ b) → Decided a b
    go true d = inl (d.0 refl)
    go false d = inr (λ p. let q = d.1 p in cc)

both : {A : Type 0} (x y : A) (P : Type 0) → Decided x y → (x ≡ y → P ⊎ (P → ⊥)) → (P → x ≡ y) → P ⊎ (P → ⊥)
both x y P (inl e) f g = f e
both x y P (inr n) f g = inr (λ p. n (g p))

text : (a b : List ℕ) → Decided a b
text [] [] = inl refl
text (x ∷ xs) (y ∷ ys) = both x y _ (number x y) (λ e. both xs ys _ (text xs ys) (λ g. inl cc) (λ p. cc)) (λ p. cc)
text xs ys = inr (λ e. cc)

mutual
  pub decide : (x y : Value) → Decided x y
  decide (bool_value a) (bool_value b) = both a b _ (truth a b) (λ e. inl cc) (λ e. cc)
  decide (int_value a) (int_value b) = both a b _ (integer a b) (λ e. inl cc) (λ e. cc)
  decide (constant_value a) (constant_value b) = both a b _ (text a b) (λ e. inl cc) (λ e. cc)
  decide (opaque_value a) (opaque_value b) = both a b _ (number a b) (λ e. inl cc) (λ e. cc)
  decide (made_variant t k xs) (made_variant u j ys) =
      both t u _ (number t u) (λ e. both k j _ (number k j) (λ f. both xs ys _ (decide_all xs ys) (λ g. inl cc) (λ p. cc)) (λ p. cc))
      (λ p. cc)
  decide (made_struct t xs) (made_struct u ys) =
      both t u _ (number t u) (λ e. both xs ys _ (decide_all xs ys) (λ g. inl cc) (λ p. cc)) (λ p. cc)
  decide x y = inr (λ e. cc)

  pub decide_all : (xs ys : Values) → Decided xs ys
  decide_all no_values no_values = inl refl
  decide_all (more_values x xs) (more_values y ys) =
      both x y _ (decide x y) (λ e. both xs ys _ (decide_all xs ys) (λ g. inl cc) (λ p. cc)) (λ p. cc)
  decide_all xs ys = inr (λ e. cc)

decide_lists : (l m : List Values) → Decided l m
decide_lists [] [] = inl refl
decide_lists (x ∷ xs) (y ∷ ys) = both x y _ (decide_all x y) (λ e. both xs ys _ (decide_lists xs ys) (λ g. inl cc) (λ p. cc)) (λ p. cc)
decide_lists xs ys = inr (λ e. cc)

pub decide_held : (x y : Held) → Decided x y
decide_held (held_value v) (held_value w) = both v w _ (decide v w) (λ e. inl cc) (λ e. cc)
decide_held (held_outputs v) (held_outputs w) = both v w _ (decide_all v w) (λ e. inl cc) (λ e. cc)
decide_held held_none held_none = inl refl
decide_held (held_some x) (held_some y) = both x y _ (decide_held x y) (λ e. inl cc) (λ e. cc)
decide_held (held_answers l) (held_answers m) = both l m _ (decide_lists l m) (λ e. inl cc) (λ e. cc)
decide_held x y = inr (λ e. cc)

-- what isn't not held, is
pub stable : (g : Got Held) (x : Held) → ((g ≡ gives x → ⊥) → ⊥) → g ≡ gives x
stable unknown x n = absurd (n (λ e. cc))
stable fails x n = absurd (n (λ e. cc))
stable (gives y) x n = elim (decide_held y x) [ inl e ↦ ap (λ (h : Held). gives h) e | inr m ↦ absurd (n (λ e. m cc)) ]

pub stable_value : (v w : Value) → ((v ≡ w → ⊥) → ⊥) → v ≡ w
stable_value v w n = elim (decide v w) [ inl e ↦ e | inr m ↦ absurd (n m) ]
