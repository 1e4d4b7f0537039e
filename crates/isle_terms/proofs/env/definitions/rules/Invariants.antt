use Rattle.std.proofs.Common.{◌≡◌, map, take}
use Rattle.isle_rules.specs.Definitions.{rules_in}
use Rattle.isle_terms.proofs.env.definitions.rules.Given as goal

abbrev pub invariant-loop-def : goal.invariant-loop-def
invariant-loop-def l = map (λ rule. rule.now) l.all.items ≡ rules_in (take l.def-index l.defs)
