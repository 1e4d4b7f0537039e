use Rattle.std.proofs.Common.{subst}
use Rattle.isle_types.proofs.LevelMembers.{found_is}
use Rattle.isle_calls.specs.Stores.Tables.{IsFound}
use Rattle.isle_calls.proofs.Stores.Tables.{stored-level}
use Rattle.isle_calls.proofs.store.Store.find.Goals as goal

pub returns : goal.returns
returns c =
    subst (λ nodes. IsFound nodes c.args.stored.now c.find.result) c.self.view_is
    (found_is stored-level c.self.inside.values c.args.stored.now c.find.result c.find.ensures)
