use Rattle.std.proofs.Common.{◌≡◌, ◌+◌, [], ◌∷◌, drop, get_or, drop_of_length-le, drop-cons, add-one, arith}
use Rattle.isle_program.proofs.ProgramFacts.Callers.{lists_none, lists_cons}
use Rattle.isle_program.proofs.facts.callers.list_at_each.Goals as goal

pub loop-i-preserved : goal.loop-i-preserved
loop-i-preserved c = λ new rest.
    let places = c.args.places.now in let i = c.loop-i.i in
    let next : drop i places ≡ get_or places i 0 ∷ drop (i + 1) places = rw add-one (drop-cons places i 0 c.loop-i-test.true) in
    c.loop-i.invariant new (rw next (lists_cons (get_or places i 0) (drop (i + 1) places) c.args.number c.loop-i.lists.items
    c.list_at.new.lists.items new
    c.in_ok-list_at.ensures rest))

pub returns : goal.returns
returns c =
    let past : drop c.loop-i.i c.args.places.now ≡ [] = drop_of_length-le c.args.places.now {i = c.loop-i.i} (omega arith) in
    c.loop-i.invariant c.loop-i.lists.items (rw past (lists_none c.args.number c.loop-i.lists.items))
