-- A loop over trees asks one after another whether it fits, or whether it passes a test.
use Rattle.std.proofs.Common.{◌≡◌, ◌↔◌, ◌+◌, ◌<◌, ◌≤◌, ℕ, suc, List, ◌∷◌, max, Bool, true, false, ◌&&◌, length, get_or, drop, drop-cons, add-one, sym, ap, ◌∙◌, arith}

-- what is asked of the trees from one place on is asked of the first of them and of the others
split : {X : Type 0} (one : X → ℕ) (several : List X → ℕ) (xs : List X) (i : ℕ) (x : X)
    → ((y : X) (ys : List X) → several (y ∷ ys) ≡ max (one y) (several ys))
    → i < length xs → x ≡ get_or xs i x → several (drop i xs) ≡ max (one x) (several (drop (i + 1) xs))
split one several xs i x splits low is =
    ap several (rw add-one (drop-cons xs i x low ∙ ap (λ y. y ∷ drop (suc i) xs) (sym is))) ∙ splits x (drop (i + 1) xs)

-- where the first fits, all do if the others do
pub rest_fits : {X All : Type 0} (one : X → ℕ) (several : List X → ℕ) (depth : ℕ) (xs : List X) (i : ℕ) (x : X)
    → ((y : X) (ys : List X) → several (y ∷ ys) ≡ max (one y) (several ys)) → i < length xs → x ≡ get_or xs i x → one x ≤ depth
    → ((several (drop i xs) ≤ depth) ↔ All) → ((several (drop (i + 1) xs) ≤ depth) ↔ All)
rest_fits one several depth xs i x splits low is fits so_far =
    let here = split one several xs i x splits low is in (
      λ rest. so_far.0 (omega arith),
      λ all. let before = so_far.1 all in omega arith,
    )

-- where all fit, the first does
pub first_fits : {X All : Type 0} (one : X → ℕ) (several : List X → ℕ) (depth : ℕ) (xs : List X) (i : ℕ) (x : X)
    → ((y : X) (ys : List X) → several (y ∷ ys) ≡ max (one y) (several ys)) → i < length xs → x ≡ get_or xs i x
    → ((several (drop i xs) ≤ depth) ↔ All) → All → one x ≤ depth
first_fits one several depth xs i x splits low is so_far all =
    let here = split one several xs i x splits low is in
    let before = so_far.1 all in
    omega arith

-- the same of a test
test_split : {X : Type 0} (one : X → Bool) (several : List X → Bool) (xs : List X) (i : ℕ) (x : X)
    → ((y : X) (ys : List X) → several (y ∷ ys) ≡ (one y && several ys)) → i < length xs → x ≡ get_or xs i x
    → several (drop i xs) ≡ (one x && several (drop (i + 1) xs))
test_split one several xs i x splits low is =
    ap several (rw add-one (drop-cons xs i x low ∙ ap (λ y. y ∷ drop (suc i) xs) (sym is))) ∙ splits x (drop (i + 1) xs)

-- where the first passes, all do if the others do
pub rest_pass : {X : Type 0} (one : X → Bool) (several : List X → Bool) (all : Bool) (xs : List X) (i : ℕ) (x : X)
    → ((y : X) (ys : List X) → several (y ∷ ys) ≡ (one y && several ys)) → i < length xs → x ≡ get_or xs i x → one x ≡ true
    → several (drop i xs) ≡ all → several (drop (i + 1) xs) ≡ all
rest_pass one several all xs i x splits low is passes so_far =
    let here = test_split one several xs i x splits low is in
    sym (here ∙ ap (λ b. b && several (drop (i + 1) xs)) passes) ∙ so_far

-- where the first fails, not all pass
pub first_fails : {X : Type 0} (one : X → Bool) (several : List X → Bool) (all : Bool) (xs : List X) (i : ℕ) (x : X)
    → ((y : X) (ys : List X) → several (y ∷ ys) ≡ (one y && several ys)) → i < length xs → x ≡ get_or xs i x → one x ≡ false
    → several (drop i xs) ≡ all → false ≡ all
first_fails one several all xs i x splits low is fails so_far =
    let here = test_split one several xs i x splits low is in
    sym (here ∙ ap (λ b. b && several (drop (i + 1) xs)) fails) ∙ so_far
