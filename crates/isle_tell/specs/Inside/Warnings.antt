-- Where what is warned of stands.
use Rattle.isle_ast.specs.declared.pos.Pos.{Pos}
use Rattle.isle_ast.specs.Positions.DefPositions.{IdentAt}
use Rattle.isle_tell.specs.declared.warnings.Warning.{Warning}
use Rattle.isle_tell.specs.declared.warnings.binders.PatternName.{PatternName}

-- a name of a pattern stands at such a position
abbrev pub NameAt : (Pos → Type 0) → PatternName → Type 0
NameAt At name = IdentAt At name.name.now

-- what is warned of stands at such a position
abbrev pub WarningAt : (Pos → Type 0) → Warning → Type 0
WarningAt At warning = At warning.pos
