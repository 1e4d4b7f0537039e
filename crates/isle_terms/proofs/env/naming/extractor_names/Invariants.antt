use Rattle.std.proofs.Common.{◌≡◌, map, take}
use Rattle.isle_terms.specs.Inside.Collecting.NamedItems.{named_shown, named_extractor}
use Rattle.isle_terms.proofs.env.naming.extractor_names.Given as goal

abbrev pub invariant-loop-extractor : goal.invariant-loop-extractor
invariant-loop-extractor l = map named_shown l.all.items ≡ map (λ extractor. named_extractor extractor.now) (take l.extractor-index l.extractors)
