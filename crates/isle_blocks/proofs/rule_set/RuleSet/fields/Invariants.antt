use Rattle.std.proofs.Common.{◌≡◌, [], map, take}
use Rattle.isle_blocks.specs.Trees.View.{field_of}
use Rattle.isle_blocks.specs.Inside.Trees.Work.{options_shown}
use Rattle.isle_blocks.proofs.rule_set.RuleSet.fields.Given as goal

abbrev pub invariant-loop-binding : goal.invariant-loop-binding
invariant-loop-binding l =
    options_shown l.all.items ≡ map (field_of (λ s. []) l.self l.site.0 l.fn.test) (take l.binding-index l.binding-items)
