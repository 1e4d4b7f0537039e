-- How an expression is evaluated part by part.
pub mod Evaluations
-- How patterns are read on numbers.
pub mod Patterns
-- What a call comes to, frame by frame.
pub mod Frames
