use Rattle.std.proofs.Common.{All, sym, subst, refl, ap, ◌∙◌, is_some, not}
use Rattle.isle_values.specs.Worlds.Entries.{part_shown, entry_shown}
use Rattle.isle_values.specs.Worlds.Tables.{IsKey}
use Rattle.isle_values.proofs.TableWorlds.Keys.{has_at, keys_more, key_is, added_by}
use Rattle.isle_values.proofs.worlds.table.TableWorld.add.Goals as goal

pub invariant_of-self-2 : goal.invariant_of-self-2
invariant_of-self-2 c =
    let e = entry_shown c.args.entry in let rows = c.self.inside.answers.entries in
    subst (All IsKey) (sym c.in_ok-replaced.ensures.entries)
    (keys_more rows c.in_ok-key.key c.args.entry.answer c.self.invariant
    (subst (λ k. IsKey (k, c.args.entry.answer)) (sym c.in_ok-key.ensures) (key_is e.side e.term e.call c.args.entry.answer)))

pub returns-clause-twice : goal.returns-clause-twice
returns-clause-twice c = λ is.
    (has_at c.self.inside.answers.entries c.args.self.now c.args.entry.side c.args.entry.term (part_shown c.args.entry.call) c.in_ok-key.key
    (is_some c.in_ok-replaced.replaced) c.self.invariant c.self.view_is c.in_ok-key.ensures (ap is_some c.in_ok-replaced.ensures.old)).0
    (c.is_none.ensures ∙ ap not is)

pub returns-clause-added : goal.returns-clause-added
returns-clause-added c = λ is.
    let rows = c.self.inside.answers.entries in
    added_by rows c.insert.new.self.entries c.args.self.now (entry_shown c.args.entry) c.args.entry.answer c.in_ok-key.key
    (is_some c.in_ok-replaced.replaced)
    c.self.invariant c.self.view_is c.in_ok-key.ensures refl (ap is_some c.in_ok-replaced.ensures.old)
    (c.is_none.ensures ∙ ap not is) c.in_ok-replaced.ensures.entries
