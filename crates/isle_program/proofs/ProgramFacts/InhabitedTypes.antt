-- Whether each type has a value is decided.
use Rattle.std.proofs.Common.{◌≡◌, ◌<◌, ◌≤◌, ◌⊎◌, inl, inr, ℕ, zero, suc, Bool, true, false, List, Some, length, set, replicate, get_or, slice_get, sym, ◌∙◌, ap, subst, arith}
use Rattle.std.specs.Prelude.{not}
use Rattle.std.specs.List.{list_all}
use Rattle.std.proofs.lemmas.Bool.{cases_Bool, cases_eq}
use Rattle.std.proofs.lemmas.List.{length-set, length-replicate}
use Rattle.std.proofs.lemmas.List.Sums.{count_by-le-length}
use Rattle.std.proofs.lemmas.Option.{same_Some, slice_get_cases, slice_get_within}
use Rattle.isle_types.specs.declared.types.«Type».{«Type» as KnownType}
use Rattle.isle_blocks.specs.Inside.Building.Contents.{Marked}
use Rattle.isle_program.specs.Inside.Facts.Spreading.{unmarked}
use Rattle.isle_program.specs.Facts.Inhabited.{AreAllInhabited, AreSound, AreClosedBelow, can_be_made}
use Rattle.isle_program.proofs.ProgramFacts.Spreading.{set_cases, set_fewer}
use Rattle.isle_program.proofs.ProgramFacts.InhabitedMarks.{made_has_value, all_inhabited}
use Rattle.isle_program.proofs.ProgramFacts.MarkedTerms.{no_mark}

module _ (types : List KnownType) where
  -- a type that isn't marked, and a value of which can be made of those of marked types
  record IsMarkedNext (marks : List Bool) : Type 0 where
    place : ℕ
    type : KnownType
    at : slice_get types place ≡ Some type
    made : can_be_made marks type ≡ true
    free : get_or marks place false ≡ false

  -- one place more
  closed_next : (marks : List Bool) (end : ℕ) (type : KnownType) → slice_get types end ≡ Some type
      → (can_be_made marks type ≡ true → Marked marks end)
      → AreClosedBelow end types marks → AreClosedBelow (suc end) types marks
  closed_next marks end type at here closed n other low there made = elim (cases_eq n end) [
    | inl same ↦
        let is : other ≡ type = same_Some other type (sym there ∙ ap (slice_get types) same ∙ at) in
        subst (λ (k : ℕ). Marked marks k) (sym same) (here (ap (can_be_made marks) (sym is) ∙ made))
    | inr later ↦ closed n other (omega (arith, low, later)) there made
  ]

  -- there is one before a place, or the marks are closed up to there
  next_before : (marks : List Bool) (end : ℕ) → end ≤ length types → IsMarkedNext marks ⊎ AreClosedBelow end types marks
  next_before marks zero within = inr (λ n type low at made. absurd (omega arith))
  next_before marks (suc end) within = elim (next_before marks end (omega arith)) [
    | inl found ↦ inl found
    | inr closed ↦ elim ((slice_get_cases types end).1) [
      | inl (type, low, at, is) ↦ elim (cases_Bool (can_be_made marks type)) [
        | inl made ↦ elim (cases_Bool (get_or marks end false)) [
          | inl marked ↦ inr (closed_next marks end type at (λ m. marked) closed)
          | inr free ↦ inl (record { place = end; type = type; at = at; made = made; free = free })
        ]
        | inr never ↦ inr (closed_next marks end type at (λ m. absurd cc) closed)
      ]
      | inr (past, none) ↦ absurd (omega arith)
    ]
  ]

  -- marks of types with values, that are closed
  record IsClosure : Type 0 where
    marks : List Bool
    fits : length marks ≡ length types
    sound : AreSound types marks
    closed : AreClosedBelow (length types) types marks

  closure : (fuel : ℕ) (marks : List Bool) → unmarked marks ≤ fuel → length marks ≡ length types → AreSound types marks → IsClosure
  closure zero marks few fits sound = elim (next_before marks (length types) (omega arith)) [
    | inl next ↦
        let within : next.place < length marks = (let h = slice_get_within types next.place next.type next.at in omega (arith, h, fits)) in
        let fewer = set_fewer marks next.place within next.free in absurd (omega (arith, fewer, few))
    | inr closed ↦ record { marks = marks; fits = fits; sound = sound; closed = closed }
  ]
  closure (suc fuel) marks few fits sound = elim (next_before marks (length types) (omega arith)) [
    | inl next ↦
        let within : next.place < length marks = (let h = slice_get_within types next.place next.type next.at in omega (arith, h, fits)) in
        let fewer = set_fewer marks next.place within next.free in
        closure fuel (set marks next.place true) (omega (arith, fewer, few)) (length-set marks next.place true ∙ fits)
        (λ n h. elim (set_cases marks next.place n h) [
          | inl old ↦ sound n old
          | inr e ↦ made_has_value types marks sound n next.type (ap (slice_get types) (sym e) ∙ next.at) next.made
        ])
    | inr closed ↦ record { marks = marks; fits = fits; sound = sound; closed = closed }
  ]

  -- each type has a value, or not each has
  pub are_decided : AreAllInhabited types ⊎ (AreAllInhabited types → ⊥)
  are_decided =
      let fresh = replicate (length types) false in
      let last = closure (length types) fresh (let few = count_by-le-length not fresh in let many = length-replicate (length types) false in
      omega (arith, few, many))
      (length-replicate (length types) false) (λ n h. let none = no_mark (length types) n in absurd cc) in
      let exact = all_inhabited types last.marks last.fits last.sound last.closed in
      elim (cases_Bool (list_all (λ b. b) last.marks)) [
        | inl all ↦ inl (exact.0 all)
        | inr some ↦ inr (λ each. let all = exact.1 each in absurd cc)
      ]
