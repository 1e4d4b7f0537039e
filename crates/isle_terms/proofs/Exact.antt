-- How what is read in turn tells the truth, part by part.
pub mod Parts
-- Which numbers a type has, as a test.
pub mod Numbers
-- The converter that fits, as a function.
pub mod Fitting
-- What reading a pattern comes to.
pub mod Patterns
-- What reading an expression comes to.
pub mod Exprs
-- What reading a rule comes to.
pub mod Rules
-- Tables make known what the definitions do that they show.
pub mod KnownSame
-- Where what is ill typed stands.
pub mod Positions
