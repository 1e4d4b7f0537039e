-- Facts that some call can meet.
use Rattle.std.specs.Prelude.{List}
use Rattle.isle_missing.specs.declared.demand.Demand.{Demand}
use Rattle.isle_missing.specs.declared.facts.Fact.{Fact}
use Rattle.isle_missing.specs.Sites.{Sites}
use Rattle.isle_missing.specs.Demands.{World, AllFit}
use Rattle.isle_missing.specs.Facts.{AreSo}

-- in some world the facts are so, and each site has a value to which a rule comes
abbrev pub CanBe : Sites → List (List Demand) → List Fact → Type 0
CanBe sites rows facts = (w : World) × AreSo w facts × AllFit w sites rows
