use Rattle.std.proofs.Common.{None}
use Rattle.isle_values.proofs.TableWorlds.Keys.{has_at}
use Rattle.isle_values.proofs.worlds.table.TableWorld.has_else.Goals as goal

pub returns : goal.returns
returns c = has_at c.self.inside.answers.entries c.args.self.now c.args.side c.args.term.now None c.in_ok-key.key
    c.contains_key.result c.self.invariant c.self.view_is
    c.in_ok-key.ensures c.contains_key.ensures
