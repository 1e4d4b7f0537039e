-- Tables that show what files define.
use Rattle.std.specs.Prelude.{◌≡◌, true, List}
use Rattle.isle_ast.specs.declared.ast.Def.{Def}
use Rattle.isle_ast.specs.Positions.Files.{SourceFile}
use Rattle.isle_types.specs.Environment.{Environment, Makes, AreWithinSizes}
use Rattle.isle_types.specs.Names.{AreDistinct}
use Rattle.isle_types.specs.TypeTables.{TypeTables}
use Rattle.isle_rules.specs.Shown.TermTables.{TermTables}
use Rattle.isle_rules.specs.Shown.RulesShown.{ShowsTerms}
use Rattle.isle_program.specs.Compiled.{AreSpelt, max_levels, max_nodes}

-- tables that show what the definitions of files make: the texts are spelt, the definitions make types and terms within the sizes, with
-- internal extractors put in, and each name is interned once
pub record ShowFiles (files : List SourceFile) (tyenv : TypeTables) (env : TermTables) : Type 0 where
  pub defs : List Def
  pub types : Environment
  pub spelt : AreSpelt 0 files defs
  pub made : Makes defs types
  pub within : AreWithinSizes defs
  pub once : AreDistinct tyenv.names
  pub terms : ShowsTerms tyenv env types max_levels max_nodes defs
  pub expands : env.expands ≡ true
