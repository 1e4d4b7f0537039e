use Rattle.std.proofs.Common.{List, All, sym, subst}
use Rattle.isle_types.specs.declared.ids.TermId.{TermId}
use Rattle.isle_blocks.specs.RuleSets.{RulesOverSites}
use Rattle.isle_blocks.specs.Trees.Promises.{IsCheckedSet}
use Rattle.isle_callers.proofs.counts.count_in.Goals as goal

pub trees-requires : goal.trees-requires
trees-requires c = subst (λ (sets : List (TermId × RulesOverSites)). All (λ (set : TermId × RulesOverSites). IsCheckedSet set.1) sets)
    (sym c.as_slice.ensures.value)
    (λ k item low. record { env = c.args.termenv.now; defined = c.requires; term = _; is = (c.in-Ok.ensures.sets c.requires).each k item low })
