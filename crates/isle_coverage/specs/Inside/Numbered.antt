-- The rules of a rule set by the numbers of their sites and tests.
use Rattle.std.specs.List.{AllZip}
use Rattle.isle_types.specs.Names.{AreDistinct}
use Rattle.isle_blocks.specs.RuleSets.{RulesOverSites}
use Rattle.isle_program.specs.declared.program.Program.{Program}
use Rattle.isle_coverage.specs.declared.numbered.Numbered.{Numbered}
use Rattle.isle_coverage.specs.Inside.Rows.{IsRow}
use Rattle.isle_coverage.specs.Inside.Sites.{AreKnown}
use Rattle.isle_coverage.specs.Inside.Tables.{ArePlain}

-- each test has one number, each rule its demands, and of sites only what is so is known
pub record IsNumbered (program : Program) (set : RulesOverSites) (numbered : Numbered) : Type 0 where
  pub plain : ArePlain numbered.table
  pub once : AreDistinct numbered.table
  pub rows : AllZip (IsRow numbered.table) set.rules numbered.rows.items
  pub sites : AreKnown program set.rules numbered.table numbered.sites.items
