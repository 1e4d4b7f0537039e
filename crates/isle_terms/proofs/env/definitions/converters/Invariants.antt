use Rattle.std.proofs.Common.{◌≡◌, map, take}
use Rattle.isle_rules.specs.Definitions.{converters_in}
use Rattle.isle_terms.proofs.env.definitions.converters.Given as goal

abbrev pub invariant-loop-def : goal.invariant-loop-def
invariant-loop-def l = map (λ converter. converter.now) l.all.items ≡ converters_in (take l.def-index l.defs)
