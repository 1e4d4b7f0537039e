-- The reading of a rule: what it comes to, as functions, and what its code keeps.
pub mod Readings
-- What the tables of terms and typed rules show.
pub mod Shown
-- What is collected and checked of definitions.
pub mod Collecting
