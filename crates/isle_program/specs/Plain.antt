-- A rule of a program, and its expressions laid out.
pub mod Laid
-- Expressions and rules laid out.
pub mod LaidOut
