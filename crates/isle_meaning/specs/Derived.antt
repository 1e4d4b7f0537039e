-- What follows from a rule's demands.
use Rattle.std.specs.Prelude.{◌≡◌, ◌≢◌, ◌<◌, ◌⊎◌, ℕ}
use Rattle.isle_meaning.specs.Sites.{Site, match_variant, extract_struct}
use Rattle.isle_meaning.specs.Demands.{Constraint, variant_constraint, struct_constraint, Demand, constrained, equal}

-- what holds after some number of rounds over what is demanded
pub data Derived (D : Demand → Type 0) : Demand → Type 0 where
  demanded : {d : Demand} → D d → Derived D d
  flipped : {s u : Site} → Derived D (equal s u) → Derived D (equal u s)
  chained : {s u w : Site} → Derived D (equal s u) → Derived D (equal u w) → Derived D (equal s w)
  shared : {s u : Site} {c : Constraint} → Derived D (equal s u) → Derived D (constrained s c) → Derived D (constrained u c)
  like_variant : {s u : Site} {ty k n i : ℕ} → Derived D (equal s u) → Derived D (constrained s (variant_constraint ty k n)) → i < n
      → Derived D (equal (match_variant s k i) (match_variant u k i))
  like_struct : {s u : Site} {ty n i : ℕ} → Derived D (equal s u) → Derived D (constrained s (struct_constraint ty n)) → i < n
      → Derived D (equal (extract_struct s i) (extract_struct u i))

-- one site, or derived to be equal
abbrev pub AreEqual : (Demand → Type 0) → Site → Site → Type 0
AreEqual D s u = (s ≡ u) ⊎ Derived D (equal s u)

-- The closed demands: each derived constraint, and the equalities left between different sites without one.
abbrev pub Closed : (Demand → Type 0) → Demand → Type 0
Closed D (constrained s c) = Derived D (constrained s c)
Closed D (equal s u) = Derived D (equal s u) × (s ≢ u) × ((c : Constraint) → Derived D (constrained s c) → ⊥)

-- the second is a field of the first, under a derived variant or struct
pub data FieldOf (D : Demand → Type 0) : Site → Site → Type 0 where
  of_variant : {s : Site} {ty k n i : ℕ} → Derived D (constrained s (variant_constraint ty k n)) → i < n → FieldOf D s (match_variant s k i)
  of_struct : {s : Site} {ty n i : ℕ} → Derived D (constrained s (struct_constraint ty n)) → i < n → FieldOf D s (extract_struct s i)

-- at any depth
pub data Inside (D : Demand → Type 0) (s : Site) : Site → Type 0 where
  directly : {u : Site} → FieldOf D s u → Inside D s u
  further_in : {u w : Site} → Inside D s u → FieldOf D u w → Inside D s w
