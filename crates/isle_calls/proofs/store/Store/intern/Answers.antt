use Rattle.std.proofs.lemmas.Result.{IfOk-weaker}
use Rattle.isle_types.proofs.LevelMembers.{number_is}
use Rattle.isle_calls.proofs.Stores.Tables.{stored-level}
use Rattle.isle_calls.proofs.store.Store.intern.Goals as goal

pub returns-clause-number : goal.returns-clause-number
returns-clause-number c =
    IfOk-weaker c.insert.result _ _ (λ n at. number_is stored-level c.insert.new.self c.args.stored n at) c.insert.ensures.number
