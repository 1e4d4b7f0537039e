use Rattle.std.proofs.Common.{sym, ap, ◌∙◌}
use Rattle.isle_rules.specs.Definitions.{as_extractor}
use Rattle.isle_terms.proofs.Collections.Listing.{listed_more, listed_same, not_copied}
use Rattle.isle_terms.proofs.env.definitions.extractors.Goals as goal
use Rattle.isle_terms.proofs.env.definitions.extractors.Goals.{in-Some+in_ok-push, in_default}

pub loop-def-preserved : goal.loop-def-preserved
loop-def-preserved c = elim c.match-extractor.branch [
  | in-Some+in_ok-push w ↦ listed_more as_extractor (λ extractor. extractor.now) c.args.defs.now c.loop-def.def-index c.def-item.result
      c.loop-def.all.items
      c.match-extractor.all.items w.in-Some.extractor c.loop-def-test.true c.def-item.is (sym w.in-Some.ensures)
      (ap (λ v. v.items) w.all-is ∙ w.in_ok-push.ensures.items) c.loop-def.invariant
  | in_default w ↦ listed_same as_extractor (λ extractor. extractor.now) c.args.defs.now c.loop-def.def-index c.def-item.result c.loop-def.all.items
      c.match-extractor.all.items c.loop-def-test.true c.def-item.is (not_copied c.extractor.result _ c.extractor.ensures w.in_default.not-Some)
      (ap (λ v. v.items) w.all-is) c.loop-def.invariant
]
