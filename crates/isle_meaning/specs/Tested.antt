-- Sites whose fields and contents are made by tests.
use Rattle.std.specs.Prelude.{ℕ, ◌<◌}
use Rattle.isle_meaning.specs.Sites.{Site, bool_site, int_site, prim_site, argument, extractor_call, constructor_call, iterator}
use Rattle.isle_meaning.specs.Sites.{make_variant, match_variant, make_struct, extract_struct, make_some, match_some, match_tuple}
use Rattle.isle_meaning.specs.Sites.{Sites, no_sites, more_sites}
use Rattle.isle_meaning.specs.Demands.{variant_constraint, struct_constraint, some_constraint, Demand, constrained, equal}

-- at every depth: a field's source has to be that variant or struct, a content's source `Some`
abbrev mutual
  pub IsTested : (Demand → Type 0) → Site → Type 0
  IsTested D (bool_site b ty) = Unit {0}
  IsTested D (int_site n ty) = Unit {0}
  IsTested D (prim_site n) = Unit {0}
  IsTested D (argument i) = Unit {0}
  IsTested D (extractor_call t s) = IsTested D s
  IsTested D (constructor_call t ss i) = AreTested D ss
  IsTested D (iterator s) = IsTested D s
  IsTested D (make_variant ty k ss) = AreTested D ss
  IsTested D (match_variant s k i) = ((ty : ℕ) × (n : ℕ) × D (constrained s (variant_constraint ty k n)) × (i < n)) × IsTested D s
  IsTested D (make_struct ty ss) = AreTested D ss
  IsTested D (extract_struct s i) = ((ty : ℕ) × (n : ℕ) × D (constrained s (struct_constraint ty n)) × (i < n)) × IsTested D s
  IsTested D (make_some s) = IsTested D s
  IsTested D (match_some s) = D (constrained s some_constraint) × IsTested D s
  IsTested D (match_tuple s i) = IsTested D s

  pub AreTested : (Demand → Type 0) → Sites → Type 0
  AreTested D no_sites = Unit {0}
  AreTested D (more_sites s ss) = IsTested D s × AreTested D ss

abbrev pub SpeaksOfTested : (Demand → Type 0) → Demand → Type 0
SpeaksOfTested D (constrained s c) = IsTested D s
SpeaksOfTested D (equal s u) = IsTested D s × IsTested D u
