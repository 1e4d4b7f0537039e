use Rattle.std.proofs.Common.{◌∷◌, [], map, length, ap, ◌∙◌}
use Rattle.std.proofs.lemmas.List.{map-append}
use Rattle.isle_terms.specs.Inside.Readings.RuleOutcomes.{read_conditions}
use Rattle.isle_rules.specs.Shown.ShownTerms.{flags_shown}
use Rattle.isle_rules.specs.Shown.ShownRules.{iflet_shown}
use Rattle.isle_terms.specs.Inside.Readings.Contexts.{known_in}
use Rattle.isle_rules.specs.Shown.RulesShown.{iflet_limit}
use Rattle.isle_terms.proofs.Steps.ExprSteps.{greatest_pushed}
use Rattle.isle_terms.proofs.Steps.ConditionSteps.{next_met}
use Rattle.isle_terms.proofs.translate.rules.translate_conditions.Goals as goal

pub loop-i-preserved : goal.loop-i-preserved
loop-i-preserved c =
    let at = c.args.context.now in
    let names = at.tyenv.now.names in
    let made = c.in_ok-translate_condition.field-0 in
    let items = c.in_ok-push.ensures.items in
    let shown = ap (map (iflet_shown names)) items ∙ map-append (iflet_shown names) c.loop-i.all.items (made ∷ []) in
    let limits = ap (map iflet_limit) items ∙ map-append iflet_limit c.loop-i.all.items (made ∷ []) in
    let whole = read_conditions (known_in at) (flags_shown c.args.caller) at.max_nodes c.args.levels c.args.trees.now c.args.bindings.now in
    record {
      read = rw shown (next_met (known_in at) (flags_shown c.args.caller) at.max_nodes c.args.levels whole
          (map (iflet_shown names) c.loop-i.all.items) (iflet_shown names made) c.args.trees.now c.loop-i.i c.index-trees-i.result c.loop-i.bindings
          c.translate_condition.new.bindings c.loop-i-test.true c.index-trees-i.is c.in_ok-translate_condition.ensures.ok c.loop-i.invariant.read);
      symbols = rw limits (greatest_pushed (map iflet_limit c.loop-i.all.items) (iflet_limit made) (length names) c.loop-i.invariant.symbols
          c.in_ok-translate_condition.ensures.symbols);
    }
