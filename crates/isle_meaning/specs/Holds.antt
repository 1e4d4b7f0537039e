-- When a demand holds of what sites hold.
use Rattle.std.specs.Prelude.{◌≡◌, ◌≢◌, ◌↔◌, ℕ, List, [], ◌∷◌}
use Rattle.isle_meaning.specs.Got.{Got, gives}
use Rattle.isle_meaning.specs.Values.{made_variant, made_struct, Value, Values, nth}
use Rattle.isle_meaning.specs.Sites.{Site, match_variant, extract_struct}
use Rattle.isle_meaning.specs.Held.{Held, held_value, Meets}
use Rattle.isle_meaning.specs.Demands.{Demand, constrained, equal}

abbrev pub Holds : (Site → Got Held) → Demand → Type 0
Holds val (constrained s c) = (h : Held) × (val s ≡ gives h) × Meets c h
Holds val (equal s u) = (h : Held) × (val s ≡ gives h) × (val u ≡ gives h)

-- each of them
abbrev pub Each : (Demand → Type 0) → List Demand → Type 0
Each P [] = Unit {0}
Each P (d ∷ ds) = P d × Each P ds

abbrev pub AllHold : (Site → Got Held) → List Demand → Type 0
AllHold val ds = Each (Holds val) ds

-- an equality of a site with itself
abbrev pub IsReflexive : Demand → Type 0
IsReflexive (constrained s c) = ⊥
IsReflexive (equal s u) = s ≡ u

-- no such equality
abbrev pub IsProper : Demand → Type 0
IsProper (constrained s c) = Unit {0}
IsProper (equal s u) = s ≢ u

-- they hold, equalities of a site with itself aside
abbrev pub AllHoldProper : (Site → Got Held) → List Demand → Type 0
AllHoldProper val ds = Each (λ d. IsProper d → Holds val d) ds

-- a value's field under a variant of whatever type, and a struct's field
pub record IsVariantField (x : Held) (k i : ℕ) (y : Held) : Type 0 where
  pub ty : ℕ
  pub fields : Values
  pub field : Value
  pub made : x ≡ held_value (made_variant ty k fields)
  pub there : nth fields i ≡ gives field
  pub same : y ≡ held_value field

pub record IsStructField (x : Held) (i : ℕ) (y : Held) : Type 0 where
  pub ty : ℕ
  pub fields : Values
  pub field : Value
  pub built : x ≡ held_value (made_struct ty fields)
  pub there : nth fields i ≡ gives field
  pub same : y ≡ held_value field

-- a field site holds exactly the field of what its source holds
pub record Respects (val : Site → Got Held) : Type 0 where
  pub variant : (s : Site) (k i : ℕ) (x y : Held) → val s ≡ gives x → IsVariantField x k i y ↔ (val (match_variant s k i) ≡ gives y)
  pub struct : (s : Site) (i : ℕ) (x y : Held) → val s ≡ gives x → IsStructField x i y ↔ (val (extract_struct s i) ≡ gives y)
