use Rattle.std.proofs.Common.{◌≡◌, map, take}
use Rattle.isle_rules.specs.Definitions.{extractors_in}
use Rattle.isle_terms.proofs.env.definitions.extractors.Given as goal

abbrev pub invariant-loop-def : goal.invariant-loop-def
invariant-loop-def l = map (λ extractor. extractor.now) l.all.items ≡ extractors_in (take l.def-index l.defs)
