use Rattle.std.proofs.Common.{subst}
use Rattle.isle_types.specs.Names.{AreDistinct}
use Rattle.isle_types.proofs.LevelMembers.{unequal_distinct}
use Rattle.isle_calls.proofs.Stores.Tables.{stored-level}
use Rattle.isle_calls.proofs.store.Store.len.Goals as goal

pub returns-clause-once : goal.returns-clause-once
returns-clause-once c = subst AreDistinct c.self.view_is (unequal_distinct stored-level c.self.inside.values c.len.ensures.once)
