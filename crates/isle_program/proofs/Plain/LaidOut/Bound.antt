-- What variables stand for as a `let` is entered and left.
use Rattle.std.proofs.Common.{◌≡◌, ℕ, List, [], ◌∷◌, ◌++◌, Option, Bool, true, false, ◌==◌, refl, sym, ap, ◌∙◌, if◌then◌else◌}
use Rattle.std.proofs.lemmas.Bool.{eqb-true}
use Rattle.isle_types.specs.declared.ids.VarId.{VarId}
use Rattle.isle_meaning.specs.Words.{set}
use Rattle.isle_program.specs.Inside.Plain.LaidOut.Expressions.{undone}

-- where two functions agree, they agree with one value put in
pub set_same : {A : Type 0} (f g : ℕ → A) (v : ℕ) (x : A) (k : ℕ) → f k ≡ g k → set f v x k ≡ set g v x k
set_same f g v x k e = ap (λ y. if k == v then x else y) e

-- a value put in and then what was before
pub set_back : {A : Type 0} (f : ℕ → A) (v : ℕ) (x : A) (k : ℕ) → set (set f v x) v (f v) k ≡ f k
set_back f v x k = go (k == v) refl
  where
    go : (b : Bool) → (k == v) ≡ b → set (set f v x) v (f v) k ≡ f k
    go true e = rw e (ap f (sym (eqb-true k v e)))
    go false e = rw e refl

-- equal variables are restored to equal ones
pub undone_same : (hidden : List (VarId × Option ℕ)) (f g : ℕ → Option ℕ) → ((k : ℕ) → f k ≡ g k) → (k : ℕ)
    → undone hidden f k ≡ undone hidden g k
undone_same [] f g e k = e k
undone_same (first ∷ others) f g e k =
    set_same (undone others f) (undone others g) first.0.0 first.1 k (undone_same others f g e k)

-- the last is restored first
pub undone_last : (hidden : List (VarId × Option ℕ)) (last : VarId × Option ℕ) (f : ℕ → Option ℕ) (k : ℕ)
    → undone (hidden ++ last ∷ []) f k ≡ undone hidden (set f last.0.0 last.1) k
undone_last [] last f k = refl
undone_last (first ∷ others) last f k =
    set_same (undone (others ++ last ∷ []) f) (undone others (set f last.0.0 last.1)) first.0.0 first.1 k (undone_last others last f k)

-- a turn of leaving: the last is restored, and the others are left
pub undone_turn : (all hidden : List (VarId × Option ℕ)) (last : VarId × Option ℕ) (f g : ℕ → Option ℕ) → all ≡ hidden ++ last ∷ []
    → ((k : ℕ) → g k ≡ set f last.0.0 last.1 k) → (k : ℕ) → undone hidden g k ≡ undone all f k
undone_turn all hidden last f g e h k =
    undone_same hidden g (set f last.0.0 last.1) h k ∙ sym (undone_last hidden last f k) ∙ ap (λ xs. undone xs f k) (sym e)

-- a turn of entering: a variable is bound, and what it stood for is kept
pub restores_turn : (all hidden : List (VarId × Option ℕ)) (var : VarId) (part : Option ℕ) (f g : ℕ → Option ℕ)
    → all ≡ hidden ++ (var, f var.0) ∷ [] → ((k : ℕ) → g k ≡ set f var.0 part k) → (k : ℕ) → undone all g k ≡ undone hidden f k
restores_turn all hidden var part f g e h k =
    ap (λ xs. undone xs g k) e ∙ undone_last hidden (var, f var.0) g k
    ∙ undone_same hidden (set g var.0 (f var.0)) f
    (λ j. set_same g (set f var.0 part) var.0 (f var.0) j (h j) ∙ set_back f var.0 part j) k
