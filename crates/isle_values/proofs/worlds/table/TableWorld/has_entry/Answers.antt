use Rattle.std.proofs.Common.{Some, ◌∙◌, ap}
use Rattle.isle_rules.specs.Values.{value_list}
use Rattle.isle_values.specs.Worlds.Tables.{key_of}
use Rattle.isle_values.proofs.TableWorlds.Keys.{has_at}
use Rattle.isle_values.proofs.worlds.table.TableWorld.has_entry.Goals as goal

pub returns : goal.returns
returns c =
    let key = c.in_ok-wanted.ensures ∙ ap (λ l. key_of c.args.side c.args.term.now (Some (value_list l))) c.in_ok-copies.ensures in
    has_at c.self.inside.answers.entries c.args.self.now c.args.side c.args.term.now (Some (value_list c.args.call.now)) c.in_ok-wanted.wanted
    c.contains_key.result c.self.invariant c.self.view_is key c.contains_key.ensures
