-- Lists that tests are put into.
use Rattle.std.proofs.Common.{◌≡◌, ◌<◌, ◌+◌, ◌⊎◌, inl, inr, ℕ, zero, suc, List, [], ◌∷◌, ◌++◌, Option, Some, None, slice_get, refl, sym, ap, subst, ◌∙◌, arith, Contains}
use Rattle.std.specs.List.{cons_option, filter_map}
use Rattle.std.specs.Option.{option_and_then, option_map}
use Rattle.std.proofs.lemmas.Bool.{cases_eq}
use Rattle.std.proofs.lemmas.List.Elements.{Contains-append_left, Contains-append_right}
use Rattle.std.proofs.lemmas.Option.{none-some, same_Some}
use Rattle.isle_types.specs.declared.ids.Sym.{Sym}
use Rattle.isle_types.specs.declared.ids.TypeId.{TypeId}
use Rattle.isle_types.specs.TypeEnvs.{sym_named, type_of_constant}
use Rattle.isle_types.specs.TypeTables.{TypeTables}
use Rattle.isle_blocks.specs.declared.constraint.Constraint.{Constraint}
use Rattle.isle_blocks.specs.declared.constraint.Constraint.TheVariants as tests
use Rattle.isle_coverage.specs.Inside.Complete.{KeepsTests}
use Rattle.isle_coverage.specs.Inside.Tables.{KeepsNumbers}

-- what stands in a list stands there with others behind it
pub get_before : {X : Type 0} (xs ys : List X) (t : ℕ) (x : X) → slice_get xs t ≡ Some x → slice_get (xs ++ ys) t ≡ Some x
get_before [] ys t x e = absurd (none-some x e)
get_before (y ∷ xs) ys zero x e = e
get_before (y ∷ xs) ys (suc t) x e = get_before xs ys t x e

-- numbers are kept where a test was there or is put behind the others
pub kept_put : (old new : List Constraint) (key : Constraint) (P Q R : Type 0) → (P × (new ≡ old)) ⊎ (Q × R × (new ≡ old ++ key ∷ []))
    → KeepsNumbers old new
kept_put old new key P Q R (inl (at, same)) = λ t c e. subst (λ (l : List Constraint). slice_get l t ≡ Some c) (sym same) e
kept_put old new key P Q R (inr (none, last, more)) =
    λ t c e. subst (λ (l : List Constraint). slice_get l t ≡ Some c) (sym more) (get_before old (key ∷ []) t c e)

-- a test that is put behind others is there, and they are
pub pushed : (old new : List Constraint) (c : Constraint) → new ≡ old ++ c ∷ [] → Contains new c
pushed old new c e =
    subst (λ (l : List Constraint). Contains l c) (sym e) (Contains-append_right old (c ∷ []) c (0, omega arith, refl))

pub kept_push : (first old new : List Constraint) (c : Constraint) → new ≡ old ++ c ∷ [] → KeepsTests first old → KeepsTests first new
kept_push first old new c e kept d m =
    subst (λ (l : List Constraint). Contains l d) (sym e) (Contains-append_left old (c ∷ []) d (kept d m))

-- the constants of symbols below a number are there
abbrev pub AreThere : TypeTables → TypeId → List Constraint → ℕ → Type 0
AreThere types ty all number = (name : List ℕ) (sym : Sym) → sym_named types name ≡ Some sym → type_of_constant types name ≡ Some ty → sym.0 < number
    → Contains all (tests.ConstPrim sym)

-- and those of one more
pub there_more : (types : TypeTables) (ty : TypeId) (old new : List Constraint) (number : ℕ) → AreThere types ty old number → KeepsTests old new
    → ((name : List ℕ) → sym_named types name ≡ Some (record { 0 = number }) → type_of_constant types name ≡ Some ty
    → Contains new (tests.ConstPrim (record { 0 = number })))
    → AreThere types ty new (number + 1)
there_more types ty old new number there kept here name symbol e f low = elim (cases_eq symbol.0 number) [
  | inl same ↦
      let one : symbol ≡ record { 0 = number } = λ i. record { 0 = same i } in
      subst (λ (s : Sym). Contains new (tests.ConstPrim s)) (sym one) (here name (e ∙ ap (λ (s : Sym). Some s) one) f)
  | inr other ↦ kept (tests.ConstPrim symbol) (there name symbol e f (omega (arith, other, low)))
]

-- what is given by what comes first is given by something
pub and_then_some : {X Y : Type 0} (f : X → Option Y) (o : Option X) (y : Y) → option_and_then f o ≡ Some y → (x : X) × (o ≡ Some x) × (f x ≡ Some y)
and_then_some f None y e = absurd (none-some y e)
and_then_some f (Some x) y e = (x, refl, e)

-- what is given first, and what stood there, stand there
cons_there : {Y : Type 0} (o : Option Y) (ys : List Y) (y : Y) → o ≡ Some y → Contains (cons_option o ys) y
cons_there None ys y q = absurd (none-some y q)
cons_there (Some w) ys y q = (0, omega arith, same_Some w y q)

cons_later : {Y : Type 0} (o : Option Y) (ys : List Y) (y : Y) → Contains ys y → Contains (cons_option o ys) y
cons_later None ys y m = m
cons_later (Some w) ys y (k, low, same) = (suc k, omega arith, same)

-- what is given of something in a list is there
pub given_there : {X Y : Type 0} (f : X → Option Y) (xs : List X) (i : ℕ) (x : X) (y : Y) → slice_get xs i ≡ Some x → f x ≡ Some y
    → Contains (filter_map f xs) y
given_there f [] i x y e g = absurd (none-some x e)
given_there f (z ∷ zs) zero x y e g = cons_there (f z) (filter_map f zs) y (ap f (same_Some z x e) ∙ g)
given_there f (z ∷ zs) (suc i) x y e g = cons_later (f z) (filter_map f zs) y (given_there f zs i x y e g)

-- what is made of something is made of something
pub map_some : {X Y : Type 0} (f : X → Y) (o : Option X) (y : Y) → option_map f o ≡ Some y → (x : X) × (o ≡ Some x) × (f x ≡ y)
map_some f None y e = absurd (none-some y e)
map_some f (Some x) y e = (x, refl, same_Some (f x) y e)

-- the tests of the numbers below one are there
abbrev pub AreCounted : (ℕ → Constraint) → List Constraint → ℕ → Type 0
AreCounted f all number = (k : ℕ) → k < number → Contains all (f k)

-- and that of one more
pub counted_more : (f : ℕ → Constraint) (old new : List Constraint) (number : ℕ) → new ≡ old ++ f number ∷ [] → AreCounted f old number
    → AreCounted f new (number + 1)
counted_more f old new number e there k low = elim (cases_eq k number) [
  | inl same ↦ subst (λ (j : ℕ). Contains new (f j)) (sym same) (pushed old new (f number) e)
  | inr other ↦ kept_push old old new (f number) e (λ d m. m) (f k) (there k (omega (arith, other, low)))
]
