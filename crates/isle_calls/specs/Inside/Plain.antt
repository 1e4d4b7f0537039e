-- How patterns are read on the numbers of values.
pub mod Fitting
-- How far an expression is evaluated.
pub mod Underway
-- What is asked for of an expression, and what an evaluation waits for.
pub mod Asked
-- Calls of the plain road, as far as they have come.
pub mod Frames
