use Rattle.std.proofs.Common.{sym, ap, ◌∙◌}
use Rattle.isle_rules.specs.Definitions.{as_converter}
use Rattle.isle_terms.proofs.Collections.Listing.{listed_more, listed_same, not_copied}
use Rattle.isle_terms.proofs.env.definitions.converters.Goals as goal
use Rattle.isle_terms.proofs.env.definitions.converters.Goals.{in-Some+in_ok-push, in_default}

pub loop-def-preserved : goal.loop-def-preserved
loop-def-preserved c = elim c.match-converter.branch [
  | in-Some+in_ok-push w ↦ listed_more as_converter (λ converter. converter.now) c.args.defs.now c.loop-def.def-index c.def-item.result
      c.loop-def.all.items
      c.match-converter.all.items w.in-Some.converter c.loop-def-test.true c.def-item.is (sym w.in-Some.ensures)
      (ap (λ v. v.items) w.all-is ∙ w.in_ok-push.ensures.items) c.loop-def.invariant
  | in_default w ↦ listed_same as_converter (λ converter. converter.now) c.args.defs.now c.loop-def.def-index c.def-item.result c.loop-def.all.items
      c.match-converter.all.items c.loop-def-test.true c.def-item.is (not_copied c.converter.result _ c.converter.ensures w.in_default.not-Some)
      (ap (λ v. v.items) w.all-is) c.loop-def.invariant
]
