use Rattle.std.proofs.Common.{ℕ, List, sym, subst}
use Rattle.isle_calls.specs.Stores.Values.{StandEach}
use Rattle.isle_calls.proofs.TreeRoad.Giving.{past_turns}
use Rattle.isle_calls.proofs.machine.reading.Machine.past.Goals as goal

pub returns : goal.returns
returns c = λ k since same at f.
    let store = c.args.self.now.store in let frame = c.args.frame.now in
    past_turns k store frame since f at c.in_ok-comes.comes
    (c.in_ok-comes.ensures k same (sym f.for_call.term)
    (subst (λ (ns : List ℕ). StandEach store k.args ns) (sym c.as_slice.ensures.value) f.for_call.stand) f.for_call.ready.typed)
