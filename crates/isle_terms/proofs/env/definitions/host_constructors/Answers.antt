use Rattle.std.proofs.Common.{sym, ap, ◌∙◌}
use Rattle.isle_terms.specs.Inside.Collecting.DefinitionLists.{constructor_in, host_constructor_shown}
use Rattle.std.specs.List.{filter_map}
use Rattle.std.proofs.lemmas.List.{take_all}
use Rattle.isle_rules.specs.Definitions.{as_external, as_external_constructor}
use Rattle.isle_terms.proofs.Collections.Listing.{listed_more, listed_same, not_mapped, filter_map-twice}
use Rattle.isle_terms.proofs.env.definitions.host_constructors.Goals as goal
use Rattle.isle_terms.proofs.env.definitions.host_constructors.Goals.{in-Some+in_ok-push, in_default}

pub loop-def-preserved : goal.loop-def-preserved
loop-def-preserved c = elim c.match-host_constructor.branch [
  | in-Some+in_ok-push w ↦ listed_more constructor_in host_constructor_shown c.args.defs.now c.loop-def.def-index c.def-item.result
      c.loop-def.all.items
      c.match-host_constructor.all.items w.in-Some.host c.loop-def-test.true c.def-item.is (sym w.in-Some.ensures)
      (ap (λ v. v.items) w.all-is ∙ w.in_ok-push.ensures.items) c.loop-def.invariant
  | in_default w ↦ listed_same constructor_in host_constructor_shown c.args.defs.now c.loop-def.def-index c.def-item.result c.loop-def.all.items
      c.match-host_constructor.all.items c.loop-def-test.true c.def-item.is (not_mapped host_constructor_shown c.host_constructor.result _
      c.host_constructor.ensures w.in_default.not-Some)
      (ap (λ v. v.items) w.all-is) c.loop-def.invariant
]

pub returns : goal.returns
returns c = c.loop-def.invariant ∙ ap (filter_map constructor_in) (take_all c.loop-def.def-index c.args.defs.now c.loop-def-test.false)
    ∙ sym (filter_map-twice as_external as_external_constructor c.args.defs.now)
