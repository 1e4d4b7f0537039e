use Rattle.std.proofs.Common.{◌≡◌, map, take}
use Rattle.std.specs.List.{filter_map}
use Rattle.isle_terms.specs.Inside.Collecting.DefinitionLists.{extractor_in, host_extractor_shown}
use Rattle.isle_terms.proofs.env.definitions.host_extractors.Given as goal

abbrev pub invariant-loop-def : goal.invariant-loop-def
invariant-loop-def l = map host_extractor_shown l.all.items ≡ filter_map extractor_in (take l.def-index l.defs)
