-- Marks of the types that have values.
use Rattle.std.proofs.Common.{◌≡◌, ◌<◌, ◌+◌, ◌↔◌, inl, inr, ℕ, zero, suc, Bool, true, false, List, [], ◌∷◌, Some, map, length, set}
use Rattle.std.proofs.Common.{slice_get, refl, sym, ◌∙◌, ap, subst, arith}
use Rattle.std.specs.Prelude.{Contains, ◌&&◌, ◌||◌}
use Rattle.std.specs.List.{list_any, list_all}
use Rattle.std.proofs.lemmas.Bool.{cases_Bool, cases_eq}
use Rattle.std.proofs.lemmas.List.{length-set}
use Rattle.std.proofs.lemmas.List.Folds.{list_any_at}
use Rattle.std.proofs.lemmas.Option.{slice_get_within}
use Rattle.isle_types.specs.declared.ids.TypeId.{TypeId}
use Rattle.isle_types.specs.declared.types.«Type».{«Type» as KnownType}
use Rattle.isle_blocks.specs.Inside.Building.Contents.{Marked}
use Rattle.isle_blocks.proofs.Building.Walking.{cons_here, cons_there}
use Rattle.isle_program.specs.Inside.Facts.Spreading.{unmarked}
use Rattle.isle_program.specs.Facts.Inhabited.{fields_for, IsInhabited, AreInhabited, has_value, no_values, more_values, AreAllInhabited, mark_of, can_be_made}
use Rattle.isle_program.specs.Facts.Inhabited.{AreClosedBelow, AreSound, MarksBelow, MarksOne}
use Rattle.isle_program.proofs.ProgramFacts.Spreading.{set_cases, set_fewer}

-- a test of some element, through a map
pub any_map : {X Y : Type 0} (p : Y → Bool) (f : X → Y) (xs : List X) → list_any p (map f xs) ≡ list_any (λ x. p (f x)) xs
any_map p f [] = refl
any_map p f (x ∷ xs) = ap (λ b. p (f x) || b) (any_map p f xs)

-- what passes a test
pub found : {X : Type 0} (p : X → Bool) (xs : List X) → list_any p xs ≡ true → (x : X) × Contains xs x × (p x ≡ true)
found p [] any = absurd cc
found p (x ∷ xs) any = elim (cases_Bool (p x)) [
  | inl here ↦ (x, cons_here x xs, here)
  | inr not_it ↦ let rest : list_any p xs ≡ true = sym (ap (λ b. b || list_any p xs) not_it) ∙ any in
      let (y, among, passes) = found p xs rest in (y, cons_there x xs y among, passes)
]

module _ (types : List KnownType) (marks : List Bool) where
  -- marked types have values
  have_all : AreSound types marks → (fields : List TypeId) → list_all (mark_of marks) fields ≡ true → AreInhabited types fields
  have_all sound [] all = no_values
  have_all sound (x ∷ xs) all = elim (cases_Bool (mark_of marks x)) [
    | inl here ↦ more_values (sound x.0 here) (have_all sound xs (sym (ap (λ b. b && list_all (mark_of marks) xs) here) ∙ all))
    | inr not_it ↦ let none = sym (ap (λ b. b && list_all (mark_of marks) xs) not_it) ∙ all in absurd cc
  ]

  pub made_has_value : AreSound types marks → (n : ℕ) (type : KnownType) → slice_get types n ≡ Some type → can_be_made marks type ≡ true
      → IsInhabited types n
  made_has_value sound n type at made =
      let (fields, among, all) = found (list_all (mark_of marks)) (fields_for type) made in
      has_value type fields at among (have_all sound fields all)

  mutual
    -- where the types are marked whose values can be made, those that have values are
    inhabited_marked : AreClosedBelow (length types) types marks → (n : ℕ) → IsInhabited types n → Marked marks n
    inhabited_marked closed n (has_value type fields at among all) =
        closed n type (slice_get_within types n type at) at
        (list_any_at (list_all (mark_of marks)) (fields_for type) among.0 fields among.1
        (ap (list_all (mark_of marks)) among.2 ∙ all_marked closed fields all))

    all_marked : AreClosedBelow (length types) types marks → (fields : List TypeId) → AreInhabited types fields
        → list_all (mark_of marks) fields ≡ true
    all_marked closed fields no_values = refl
    all_marked closed fields (more_values {type} {others} one more) =
        ap (λ b. b && list_all (mark_of marks) others) (inhabited_marked closed type.0 one) ∙ all_marked closed others more

-- all marks are set
each_set : (marks : List Bool) → list_all (λ b. b) marks ≡ true → (n : ℕ) → n < length marks → Marked marks n
each_set [] all n within = absurd (omega arith)
each_set (x ∷ xs) all zero within = elim (cases_Bool x) [
  | inl here ↦ here
  | inr not_it ↦ let none = sym (ap (λ b. b && list_all (λ b. b) xs) not_it) ∙ all in absurd cc
]
each_set (x ∷ xs) all (suc n) within = elim (cases_Bool x) [
  | inl here ↦ each_set xs (sym (ap (λ b. b && list_all (λ b. b) xs) here) ∙ all) n (omega arith)
  | inr not_it ↦ let none = sym (ap (λ b. b && list_all (λ b. b) xs) not_it) ∙ all in absurd cc
]

all_set : (marks : List Bool) → ((n : ℕ) → n < length marks → Marked marks n) → list_all (λ b. b) marks ≡ true
all_set [] each = refl
all_set (x ∷ xs) each = ap (λ b. b && list_all (λ b. b) xs) (each 0 (omega arith)) ∙ all_set xs (λ n within. each (suc n) (omega arith))

-- all marks are set exactly where each type has a value
pub all_inhabited : (types : List KnownType) (marks : List Bool) → length marks ≡ length types → AreSound types marks
    → AreClosedBelow (length types) types marks → (list_all (λ b. b) marks ≡ true) ↔ AreAllInhabited types
all_inhabited types marks fits sound closed = (
  λ all n within. sound n (each_set marks all n (omega arith)),
  λ each. all_set marks (λ n within. inhabited_marked types marks closed n (each n (omega arith))),
)

module _ (types : List KnownType) (first : List Bool) where
  pub below_first : MarksBelow 0 types first first false
  below_first = record {
    fits = refl;
    sound = λ s. s;
    fewer = λ e. absurd cc;
    same = λ e. refl;
    closed = λ e n type low at made. absurd (omega arith);
  }

  -- a type was marked
  pub below_one : (place : ℕ) (marks new : List Bool) (changed marked : Bool) → place < length types → length first ≡ length types
      → MarksBelow place types first marks changed → MarksOne place types marks new marked → marked ≡ true
      → MarksBelow (place + 1) types first new true
  below_one place marks new changed marked within fits before one is =
      let (type, at, made, free, put) = one.one is in
      let fewer = set_fewer marks place (let kept = before.fits in omega arith) free in
      let done : MarksBelow (place + 1) types first (set marks place true) true = record {
        fits = length-set marks place true ∙ before.fits;
        sound = λ s n h. elim (set_cases marks place n h) [
          | inl old ↦ before.sound s n old
          | inr e ↦ made_has_value types marks (before.sound s) n type (ap (slice_get types) (sym e) ∙ at) made
        ];
        fewer = λ e. elim (cases_Bool changed) [
          | inl yet ↦ let less = before.fewer yet in omega (arith, less, fewer)
          | inr not_yet ↦ let same = ap unmarked (before.same not_yet) in omega (arith, same, fewer)
        ];
        same = λ e. absurd cc;
        closed = λ e. absurd cc;
      } in
      subst (λ l. MarksBelow (place + 1) types first l true) (sym put) done

  -- none was
  pub below_none : (place : ℕ) (marks new : List Bool) (changed marked : Bool) → MarksBelow place types first marks changed
      → MarksOne place types marks new marked → marked ≡ false → MarksBelow (place + 1) types first new changed
  below_none place marks new changed marked before one is =
      let (put, here) = one.none is in
      let done : MarksBelow (place + 1) types first marks changed = record {
        fits = before.fits;
        sound = before.sound;
        fewer = before.fewer;
        same = before.same;
        closed = λ e n type low at made. elim (cases_eq n place) [
          | inl same ↦ subst (λ (k : ℕ). Marked marks k) (sym same) (here type (ap (slice_get types) (sym same) ∙ at) made)
          | inr other ↦ before.closed e n type (omega (arith, low, other)) at made
        ];
      } in
      subst (λ l. MarksBelow (place + 1) types first l changed) (sym put) done
