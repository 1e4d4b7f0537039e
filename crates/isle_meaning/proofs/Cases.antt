-- Worked cases.
-- What literal rules demand, what follows, and where they are unreachable.
pub mod Demands
-- What calls of literal rules mean, and where chains of asking end.
pub mod CalledTerms
-- Which calls a call asks.
pub mod AskedCalls
-- Plain runs of literal rules.
pub mod TriedRules
-- Plain runs at other depths.
pub mod SpentRuns
-- Machine's runs of literal trees.
pub mod MachineRuns
-- Values of types, at both ends of a range.
pub mod TypedValues
-- A multi call in a `let` that is not used.
pub mod UnusedLets
