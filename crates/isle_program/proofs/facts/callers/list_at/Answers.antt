use Rattle.std.proofs.Common.{◌<◌, length, refl, arith}
use Rattle.std.proofs.lemmas.Option.{slice_get_read}
use Rattle.isle_program.proofs.ProgramFacts.Callers.{lists_one}
use Rattle.isle_program.proofs.facts.callers.list_at.Goals as goal

pub returns-in_ok-push : goal.returns-in_ok-push
returns-in_ok-push c =
    let lists = c.args.lists.now.items in let place = c.args.place in let own = c.index_mut.result.now in
    let within : place < length lists = (let low = c.if-place-len.true in let len = c.len.ensures in let full = c.args.lists.now.ok in
    omega (arith, low, len, full)) in
    lists_one place c.args.number lists own c.push.new.self (slice_get_read lists (length lists) place own refl within c.index_mut.ensures.value)
    c.in_ok-push.ensures.items
