-- What each tree does that a checked rule set builds.
use Rattle.isle_blocks.specs.RuleSets.{RulesOverSites}
use Rattle.isle_blocks.specs.Trees.Promises.{IsBuilt, IsCheckedSet}
use Rattle.isle_blocks.specs.Trees.Shown.{BlockShown}

-- what holds of each tree that a checked rule set builds
abbrev pub OfEachBuilt : (RulesOverSites → BlockShown → Type 0) → Type 0
OfEachBuilt P = (set : RulesOverSites) (tree : BlockShown) → IsCheckedSet set → IsBuilt set tree → P set tree
