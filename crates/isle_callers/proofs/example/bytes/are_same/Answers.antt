use Rattle.isle_callers.proofs.example.bytes.are_same.Goals as goal

pub returns : goal.returns
returns c = c.eq.ensures.same
