-- Which types have values.
pub mod Inhabited
-- Which terms a call reaches, and what keeps them from being run.
pub mod Reach
-- How many steps the rules of a term take at most.
pub mod Steps
-- What is asked of a program at any time.
pub mod Asked
