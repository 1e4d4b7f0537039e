use Rattle.std.proofs.Common.{◌≡◌, map, take}
use Rattle.isle_terms.specs.Inside.Collecting.NamedItems.{named_shown, named_host_constructor}
use Rattle.isle_terms.proofs.env.naming.host_constructor_names.Given as goal

abbrev pub invariant-loop-host : goal.invariant-loop-host
invariant-loop-host l = map named_shown l.all.items ≡ map named_host_constructor (take l.host-index l.hosts)
