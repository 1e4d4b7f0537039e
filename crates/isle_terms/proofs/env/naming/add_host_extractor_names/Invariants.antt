use Rattle.std.proofs.Common.{◌≡◌, ◌++◌, map, take}
use Rattle.isle_terms.specs.Inside.Collecting.NamedItems.{named_shown, named_host_extractor}
use Rattle.isle_terms.proofs.env.naming.add_host_extractor_names.Given as goal

abbrev pub invariant-loop-host : goal.invariant-loop-host
invariant-loop-host l = map named_shown l.all.items ≡ map named_shown l.initial.all.items ++ map named_host_extractor (take l.host-index l.hosts)
