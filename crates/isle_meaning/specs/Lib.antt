-- What is known of something.
pub use Rattle.isle_trees.specs.Got
-- Values of terms, and what is known of them.
pub mod Values
-- Which values are of a type.
pub mod ValueTypes
-- What declarations say of terms and types.
pub mod Facts
-- Expressions with their `let`s written out.
pub mod Words
-- What a rule can speak of.
pub mod Sites
-- The subtrees of a site.
pub mod Subtrees
-- What a rule demands of sites.
pub mod Demands
-- What follows from demands.
pub mod Derived
-- Unreachable rules, and rules that overlap, shadow or differ.
pub mod Faults
-- Answers to calls.
pub mod Answers
-- When a rule matches.
pub mod Matching
-- What a site holds.
pub mod Held
-- When a demand holds.
pub mod Holds
-- What kind of thing a site holds, and which demands suit it.
pub mod Sorts
-- Variables that are read where they are bound; completions that answer what a rule asks.
pub mod Scopes
-- Rules typed by what is said of their terms.
pub mod Typing
-- Rules as elaboration makes them, whatever terms they ask.
pub mod Elaborated
-- Sites as numbers of a table.
pub mod Numbered
-- Sites whose fields and contents are made by tests.
pub mod Tested
-- The sites that a rule needs, in order.
pub mod Needs
-- The values that ground values stand for.
pub mod GroundValues
-- Checked programs, and what a world answers.
pub mod Worlds
-- Impure calls and results.
pub mod RightSides
-- The meaning of a call at a depth.
pub mod Calls
-- Which call asks which.
pub mod Asking
-- The checked program that definitions make.
pub mod DefinedPrograms
-- What typing gives of a program's rules.
pub mod SoundPrograms
-- What calls come to, and what that says of what they mean.
pub mod Outcomes
-- The plain run of a call.
pub mod PlainRuns
-- The effects with which one begins.
pub mod PlainBeginnings
-- The machine's run of a call.
pub mod Machine
-- Which terms with rules a call comes to.
pub mod Reaching
-- What is said of sites: their parts, kinds and calls, and what they hold.
pub mod AboutSites
-- The laws that join them.
pub mod Laws
-- What no public contract cites.
pub mod Inside
