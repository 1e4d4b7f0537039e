-- Meanings at other depths, chains of asking, and what a call means.
-- A meaning stays at every greater depth.
pub mod Deeper
-- Chains of asking, joined and at greater depths.
pub mod Joined
-- One value of a type has one tree.
pub mod Trees
-- What is written out mentions only impure calls before it.
pub mod Causing
-- Which calls a rule asks in its patterns and if-lets.
pub mod Asks
-- A completion that answers every pure call covers.
pub mod Totals
-- Right sides do one thing.
pub mod Unique
-- One call has one meaning.
pub mod One
-- Where a call that is asked ends, the call that asks it ends.
pub mod Prefixed
-- What is written out calls what is pure where it stands.
pub mod PureCalls
-- Subtrees of sites.
pub mod Subtrees
-- Where a word's run ends, it is at a call that the word makes.
pub mod WordEnds
-- Where a pattern's run ends, it is at an extractor's call that the pattern makes.
pub mod PatternEnds
-- Where a rule that is tried ends, it is at a call that its patterns or if-lets have.
pub mod RuleEnds
-- Where a right side's run ends, it is at a call that it makes.
pub mod RightEnds
-- Where a plain run ends unanswered, a chain of asking ends so.
pub mod Ends
-- What can't but be.
pub mod Surely
-- Completions with one more answer.
pub mod Growing
-- What is known stays so, and what isn't can't but become known.
pub mod Knowing
-- Rules can't but be covered, and match the same under more answers.
pub mod Covering
-- Right sides that go on under more answers do one thing.
pub mod Following
-- What calls mean is of their terms' types.
pub mod Good
-- Whether effects and answers are one is decided.
pub mod Stable
-- One call has one meaning, whether or not completions are given.
pub mod Always
-- What typing and the check for overlaps give of the calls and ties of rules.
pub mod Elaborated
