-- Facts of a call: demands that hold, and demands that fail.
use Rattle.std.specs.Prelude.{◌≡◌, List, [], ◌∷◌}
use Rattle.isle_missing.specs.declared.facts.Fact.{Fact}
use Rattle.isle_missing.specs.Demands.{World}

-- all facts are so in a world
abbrev pub AreSo : World → List Fact → Type 0
AreSo w [] = Unit {0}
AreSo w (f ∷ fs) = (w.holds f.demand ≡ f.holds) × AreSo w fs
