-- What the tree of a checked rule set does, each tree of a compiled program does.
use Rattle.std.proofs.Common.{List, subst}
use Rattle.isle_types.specs.declared.ids.TermId.{TermId}
use Rattle.isle_blocks.specs.DefinedSets.{IsTermSet}
use Rattle.isle_blocks.specs.RuleSets.{RulesOverSites}
use Rattle.isle_blocks.specs.Trees.BuiltTrees.{OfEachBuilt}
use Rattle.isle_blocks.specs.Trees.Shown.{BlockShown}
use Rattle.isle_program.specs.Programs.{terms_of, rule_sets_of, set_trees_of}
use Rattle.isle_calls.proofs.TreeRoad.Grown.{defined, found_is}
use Rattle.isle_run.specs.Laws.Trees.{OfEachTerm}

pub of_each_term : (P : RulesOverSites → BlockShown → Type 0) → OfEachBuilt P → OfEachTerm P
of_each_term P law files program is t set tree found =
    let (own, (k, low, at), of, same, its) = found_is (rule_sets_of program) (set_trees_of program) t (set, tree) is.trees found in
    let of_term : IsTermSet (terms_of program) (defined program files is) own =
    subst (IsTermSet (terms_of program) (defined program files is)) at (is.sets.each k own low) in
    law set tree (record {
      env = terms_of program;
      defined = defined program files is;
      term = own.0;
      is = subst (λ (s : RulesOverSites). IsTermSet (terms_of program) (defined program files is) (own.0, s)) same of_term;
    }) its.builds
