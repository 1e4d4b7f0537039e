use Rattle.std.proofs.Common.{List, sym, subst, ◌∙◌}
use Rattle.std.proofs.lemmas.Result.{err_from_is_err_and}
use Rattle.isle_types.specs.declared.ids.TermId.{TermId}
use Rattle.isle_types.proofs.Reading.{fault_weaker, no_items, some_items}
use Rattle.isle_blocks.specs.DefinedSets.{AreSetsOf}
use Rattle.isle_blocks.specs.RuleFaults.{of_rules, of_size}
use Rattle.isle_blocks.specs.RuleSets.{RulesOverSites}
use Rattle.isle_blocks.proofs.RuleFaults.Faultless.{faultless}
use Rattle.isle_blocks.proofs.checking.check.Goals as goal

pub rival_errors-requires-clause-sets : goal.rival_errors-requires-clause-sets
rival_errors-requires-clause-sets c = λ d.
    subst (λ (l : List (TermId × RulesOverSites)). AreSetsOf c.args.termenv.now d l) (sym c.as_slice.ensures.value) (c.in_ok-sets.ensures.sets d)

pub returns-then-is_empty-clause-faultless : goal.returns-then-is_empty-clause-faultless
returns-then-is_empty-clause-faultless c = λ d.
    let env = c.args.termenv.now in
    let made = c.in_ok-sets.field-0 in
    faultless env d made.sets.items made.unreachable.items c.in_ok-between.between.items (c.in_ok-sets.ensures.sets d)
    (c.in_ok-sets.ensures.unreachable d) (c.in_ok-between.ensures d)
    (sym c.in_ok-errors.ensures
    ∙ no_items c.in_ok-errors.errors c.is_empty.result c.is_empty.ensures c.if-is_empty.true)

pub returns-clause-faults : goal.returns-clause-faults
returns-clause-faults c = λ d.
    let made = c.in_ok-sets.field-0 in
    of_rules made.unreachable.items c.in_ok-between.between.items (c.in_ok-sets.ensures.within d) (c.in_ok-sets.ensures.unreachable d)
    (c.in_ok-between.ensures d)
    c.in_ok-errors.ensures
    (some_items c.in_ok-errors.errors c.is_empty.result c.is_empty.ensures c.if-is_empty.false)

pub returns-in_err-sets-clause-faults : goal.returns-in_err-sets-clause-faults
returns-in_err-sets-clause-faults c =
    let e = err_from_is_err_and c.from_residual.result c.from_residual.ensures.1 in
    rw (e.1, e.2) (fault_weaker _ _ c.in_err-sets.field-0.0 (λ errors one d. of_size (one d).pos (one d).alone (one d).too_large)
    c.in_err-sets.ensures.full)
