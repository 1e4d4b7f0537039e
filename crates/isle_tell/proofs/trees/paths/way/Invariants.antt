use Rattle.std.proofs.Common.{◌≡◌, ◌++◌, ◌-◌}
use Rattle.std.specs.Prelude.{string_bytes}
use Rattle.isle_tell.specs.TreeTexts.DotSites.{way_end, way_words}
use Rattle.isle_tell.proofs.trees.paths.way.Given as goal

abbrev pub invariant-loop : goal.invariant-loop
invariant-loop l = (string_bytes l.words ++ way_words l.table.program.now l.table.types.now l.table.sites.now (12 - l.counter) l.at
    ≡ way_words l.table.program.now l.table.types.now l.table.sites.now 12 l.fn.site)
    × (way_end l.table.sites.now (12 - l.counter) l.at ≡ way_end l.table.sites.now 12 l.fn.site)
