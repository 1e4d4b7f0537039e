use Rattle.std.proofs.Common.{◌≡◌, ◌+◌, [], ◌∷◌, drop, get_or, drop_of_length-le, drop-cons, add-one, arith}
use Rattle.isle_program.proofs.ProgramFacts.Spreading.{marks_none, marks_cons}
use Rattle.isle_program.proofs.facts.spreading.mark_each.Goals as goal

pub loop-i-preserved : goal.loop-i-preserved
loop-i-preserved c = λ new listed rest.
    let numbers = c.args.numbers.now in let i = c.loop-i.i in
    let cut : drop i numbers ≡ get_or numbers i 0 ∷ drop (i + 1) numbers = rw add-one (drop-cons numbers i 0 c.loop-i-test.true) in
    c.loop-i.invariant new listed (rw cut (marks_cons (get_or numbers i 0) (drop (i + 1) numbers) c.loop-i.marks.items c.mark.new.marks.items new
    c.loop-i.left.items c.mark.new.left.items listed c.in_ok-mark.ensures rest))

pub returns : goal.returns
returns c =
    let past : drop c.loop-i.i c.args.numbers.now ≡ [] = drop_of_length-le c.args.numbers.now {i = c.loop-i.i} (omega arith) in
    c.loop-i.invariant c.loop-i.marks.items c.loop-i.left.items (rw past (marks_none c.loop-i.marks.items c.loop-i.left.items))
