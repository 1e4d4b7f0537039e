-- What is recorded of numbers, as demands.
use Rattle.std.proofs.Common.{◌≡◌, ℕ, zero, suc, List, [], ◌∷◌, map, length, Option, refl, sym, ap, subst, arith}
use Rattle.std.specs.Prelude.{Contains}
use Rattle.isle_containers.proofs.RootedTables.{Contains-map}
use Rattle.isle_types.specs.declared.ids.Sym.{Sym}
use Rattle.isle_meaning.specs.Sites.{Site}
use Rattle.isle_meaning.specs.Demands as meaning
use Rattle.isle_meaning.specs.Demands.{constrained}
use Rattle.isle_meaning.specs.Numbered.{At}
use Rattle.isle_blocks.specs.declared.ids.BindingId.{BindingId}
use Rattle.isle_blocks.specs.declared.binding.Binding.{Binding}
use Rattle.isle_blocks.specs.declared.constraint.Constraint.{Constraint}
use Rattle.isle_blocks.specs.Rows.{rows_of, test_of}
use Rattle.isle_blocks.specs.Inside.ClosureStates.{HasOwn, AreOwn, demanded_in}

-- what is in the list of images is the image of something there
pub of_image : {X Y : Type 0} (f : X → Y) (xs : List X) (y : Y) → Contains (map f xs) y → (x : X) × Contains xs x × (f x ≡ y)
of_image f [] y (k, l, e) = absurd (omega arith)
of_image f (x ∷ xs) y (zero, l, e) = (x, (0, omega arith, refl), e)
of_image f (x ∷ xs) y (suc k, l, e) = let (z, h, p) = of_image f xs y (k, omega arith, e) in (z, (suc h.0, omega (arith, h.1), h.2), p)

-- own tests are demanded
pub owned : (name : Sym → List ℕ) (table : List Binding) (equals : List (ℕ × ℕ)) (own : List (Option Constraint))
    (has : List (BindingId × Constraint))
    → AreOwn (length table) has own → (a : ℕ) (c : Constraint) (t : Site) → HasOwn own a c → At (rows_of name table) t a
    → demanded_in name table has equals (constrained t (test_of name c))
owned name table equals own has are a c t h p =
    let (id, same, inside) = are.demanded a c h in
    let f : BindingId × Constraint → ℕ × meaning.Constraint = λ q. (q.0.0, test_of name q.1) in
    (id.0, Contains-map f has (id, c) inside, subst (At (rows_of name table) t) (sym same) p)

-- and what is demanded is an own test
pub own_of : (name : Sym → List ℕ) (table : List Binding) (equals : List (ℕ × ℕ)) (own : List (Option Constraint))
    (has : List (BindingId × Constraint))
    → AreOwn (length table) has own → (t : Site) (d : meaning.Constraint) → demanded_in name table has equals (constrained t d)
    → (a : ℕ) × (c : Constraint) × At (rows_of name table) t a × HasOwn own a c × (test_of name c ≡ d)
own_of name table equals own has are t d (k, h, p) =
    let f : BindingId × Constraint → ℕ × meaning.Constraint = λ q. (q.0.0, test_of name q.1) in
    let (q, inside, e) = of_image f has (k, d) h in
    let at : q.0.0 ≡ k = ap (λ (r : ℕ × meaning.Constraint). r.0) e in
    (q.0.0, q.1, subst (At (rows_of name table) t) (sym at) p, are.all q.0 q.1 inside, ap (λ (r : ℕ × meaning.Constraint). r.1) e)
