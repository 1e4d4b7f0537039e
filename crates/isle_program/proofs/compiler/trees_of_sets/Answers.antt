use Rattle.std.proofs.Common.{◌≡◌, ◌<◌, ◌+◌, ◌++◌, ◌∷◌, [], ℕ, List, length, take, get_or, sym, subst, arith}
use Rattle.std.specs.List.{AllZip}
use Rattle.std.proofs.lemmas.Slice.Zip.{all_zipped_more}
use Rattle.isle_types.specs.declared.ids.TermId.{TermId}
use Rattle.isle_types.proofs.DefinitionTurns.{take_here}
use Rattle.isle_blocks.specs.RuleSets.{RulesOverSites}
use Rattle.isle_blocks.specs.Trees.Promises.{IsCheckedSet}
use Rattle.isle_blocks.specs.Trees.Shown.{BlockShown}
use Rattle.isle_program.specs.Trees.{AreSetTrees, IsSetTree}
use Rattle.isle_program.proofs.compiler.trees_of_sets.Goals as goal

-- the sets before a place have their trees, and so has the set there
tree_more : (sets : List (TermId × RulesOverSites)) (i : ℕ) (set : TermId × RulesOverSites) (trees new : List BlockShown) (tree : BlockShown)
    → i < length sets → set ≡ get_or sets i set → AreSetTrees (take i sets) trees → IsSetTree set.1 tree → new ≡ trees ++ tree ∷ []
    → AreSetTrees (take (i + 1) sets) new
tree_more sets i set trees new tree low at before built is =
    let R : TermId × RulesOverSites → BlockShown → Type 0 = λ own. IsSetTree own.1 in
    subst (λ (l : List (TermId × RulesOverSites)). AllZip R l new) (sym (take_here sets i set low at))
    (subst (λ (all : List BlockShown). AllZip R (take i sets ++ set ∷ []) all) (sym is) (all_zipped_more R (take i sets) trees set tree before built))

pub serialize-requires : goal.serialize-requires
serialize-requires c = record {
  checked = subst (λ (set : TermId × RulesOverSites). IsCheckedSet set.1) (sym c.set-item.is)
      (c.requires c.loop-set.set-index c.set-item.result (omega (arith, c.loop-set-test.true)));
}

pub loop-set-preserved : goal.loop-set-preserved
loop-set-preserved c =
    tree_more c.args.sets.now c.loop-set.set-index c.set-item.result c.loop-set.trees.items c.push.new.self.items c.in_ok-serialize.field-0
    (omega (arith, c.loop-set-test.true)) c.set-item.is c.loop-set.invariant
    (record {
      builds = c.in_ok-serialize.ensures.builds;
      returns = c.in_ok-serialize.ensures.returns;
    }) c.in_ok-push.ensures.items
