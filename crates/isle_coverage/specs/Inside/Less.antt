-- Rules that demand less.
use Rattle.std.specs.Prelude.{List, Contains}
use Rattle.isle_missing.specs.declared.demand.Demand.{Demand}

-- what the second demands the first does
abbrev pub DemandsLess : List Demand → List Demand → Type 0
DemandsLess row less = (d : Demand) → Contains less d → Contains row d
