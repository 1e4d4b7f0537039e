use Rattle.std.proofs.Common.{◌≡◌, ◌∙◌, Option, Some, sym, refl, ap, subst}
use Rattle.std.specs.Option.{option_map}
use Rattle.isle_blocks.specs.RuleSets.{RulesOverSites}
use Rattle.isle_blocks.specs.Trees.Shown.{BlockShown}
use Rattle.isle_calls.specs.declared.machine.frame.At.TheVariants.{Steps as AtSteps}
use Rattle.isle_calls.specs.Inside.Blocks.Frames.{BeginsAt, found_in}
use Rattle.isle_calls.proofs.machine.frame.start.Goals as goal

pub returns-in-Some : goal.returns-in-Some
returns-in-Some c =
    let found : Some (c.in-Some.set.now, c.in-Some.tree.now) ≡ found_in c.args.program.now c.args.term.0 =
    sym (ap (option_map (λ found. (found.0.now, found.1.now))) c.in-Some.is) ∙ c.tree_of.ensures in
    subst (λ (o : Option (RulesOverSites × BlockShown)). BeginsAt o c.bindings.result.now (AtSteps c.steps.result)) found
    (c.bindings.ensures, (c.steps.result, refl, c.steps.ensures))
