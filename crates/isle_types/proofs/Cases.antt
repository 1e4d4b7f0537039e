-- Worked cases.

-- Which environment definitions make, or that they make none.
pub mod Environments
