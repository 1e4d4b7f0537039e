use Rattle.std.proofs.Common.{◌≡◌, map, take}
use Rattle.isle_rules.specs.Definitions.{declarations}
use Rattle.isle_terms.proofs.env.definitions.declarations.Given as goal

abbrev pub invariant-loop-def : goal.invariant-loop-def
invariant-loop-def l = map (λ decl. decl.now) l.all.items ≡ declarations (take l.def-index l.defs)
