use Rattle.std.proofs.Common.{subst}
use Rattle.isle_types.specs.Names.{AreDistinct}
use Rattle.isle_types.proofs.LevelMembers.{unequal_distinct}
use Rattle.isle_blocks.proofs.Numbering.{binding-level}
use Rattle.isle_blocks.proofs.sites.Sites.len.Goals as goal

pub returns-clause-once : goal.returns-clause-once
returns-clause-once c = subst AreDistinct c.self.view_is (unequal_distinct binding-level c.self.inside.bindings c.len.ensures.once)
