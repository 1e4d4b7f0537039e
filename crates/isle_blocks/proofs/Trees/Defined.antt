-- The rule sets of definitions.
use Rattle.std.proofs.Common.{◌≡◌, ap, sym, ◌∙◌}
use Rattle.std.proofs.lemmas.Option.{same_Some}
use Rattle.isle_rules.specs.TypedRules.{TypedRule}
use Rattle.isle_blocks.specs.Trees.Laws.{BuiltSetsAreRunnable, DefinitionsHavePriorities}
use Rattle.isle_blocks.proofs.Building.Naming.{name_by_injective}
use Rattle.isle_blocks.proofs.Sets.GatheredRules.{typed_at}

pub built_sets_are_runnable : BuiltSetsAreRunnable
built_sets_are_runnable env d term set run is = record { injective = name_by_injective d.tyenv.names d.once; runnable = run; is = is }

pub definitions_have_priorities : DefinitionsHavePriorities
definitions_have_priorities env d p s rule at at_rule =
    let (typed, at_typed, shown) = typed_at env d p s at in
    let same : typed ≡ rule = same_Some typed rule (sym at_typed ∙ at_rule) in shown.priority ∙ ap (λ (t : TypedRule). t.priority) same
