use Rattle.std.proofs.Common.{◌≡◌, ◌++◌, map, take}
use Rattle.isle_layout.specs.DefSpellings.{iflet_sexpr}
use Rattle.isle_layout.proofs.to_sexpr.rules.add_iflets.Given as goal

abbrev pub invariant-loop-iflet : goal.invariant-loop-iflet
invariant-loop-iflet l = l.longer ≡ l.initial.longer ++ map iflet_sexpr (take l.iflet-index l.iflets)
