use Rattle.std.proofs.Common.{◌≡◌, map, take}
use Rattle.std.specs.List.{filter_map}
use Rattle.isle_terms.specs.Inside.Collecting.DefinitionLists.{constructor_in, host_constructor_shown}
use Rattle.isle_terms.proofs.env.definitions.host_constructors.Given as goal

abbrev pub invariant-loop-def : goal.invariant-loop-def
invariant-loop-def l = map host_constructor_shown l.all.items ≡ filter_map constructor_in (take l.def-index l.defs)
