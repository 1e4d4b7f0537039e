-- What typing gives of a program's rules.
-- Which terms the variants and structs of types are.
pub mod MadeData
-- Conditions, and right sides of pure terms, make no impure calls.
pub mod PureCalls
-- Soundness is known by a fact of which only that it holds is known.
pub mod Stable
