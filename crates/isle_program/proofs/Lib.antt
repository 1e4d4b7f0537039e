-- Which files are compiled, and the faults of others.
pub mod Compiling
-- Worked cases.
pub mod Cases
-- What is known of a program before it is run.
pub mod ProgramFacts
-- Compiled programs are sound.
pub mod SoundPrograms
-- Rules laid out, in the order in which they are tried.
pub mod Plain
