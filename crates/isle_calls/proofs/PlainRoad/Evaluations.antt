-- What the parts of an expression come to while it is evaluated.
pub mod Parts
-- How an evaluation goes on once the call that it waits for is answered.
pub mod Going
-- The same, kind by kind.
pub mod Kinds
-- What a step, a turn and the loop over turns tell of an evaluation.
pub mod Loop
-- Turns of the evaluation of an expression.
pub mod Turns
-- The parts that an evaluation looks at one after another.
pub mod Walk
