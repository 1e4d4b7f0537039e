-- Trees of tests: a rule set as what trees speak of.
-- Whether sites hold the same, and whether what is held passes a test.
pub mod Compare
-- A rule set as the rules of a tree.
pub mod View
-- Blocks as their nodes show them.
pub mod Nodes
-- Blocks as contracts see them.
pub mod Shown
-- Places in a block, and what is read there.
pub mod Places
-- Steps and arms of blocks.
pub mod Views
-- The trees of a table's sites, and what they hold.
pub mod SiteTrees
-- What a site is, where its parts hold these.
pub mod Makes
-- The rule sets of terms that ask no `multi` term.
pub mod Premises
-- The choice of a walk, as the typed rules say it.
pub mod Choices
-- The rule sets of any terms, and of `multi` ones.
pub mod ElaboratedSets
-- What the theory of trees asks of a rule set.
pub mod Laws
-- What the tree of a rule set promises.
pub mod Promises
-- What sites are where calls are functions into finite lists.
pub mod Functions
-- Whether a rule of a set matches.
pub mod Deciding
-- What the rule sets of `multi` terms give.
pub mod Bags
-- The bag of a `multi` term.
pub mod RuleBags
-- What the steps of a rule set's tree read, and what its arms bind.
pub mod ReadPromises
-- Rules of equal priority.
pub mod Ties
-- Calls that take values of their types.
pub mod TypedCalls
-- What the tree of a rule set promises of right sides.
pub mod RightPromises
-- What each tree does that a rule set builds.
pub mod BuiltTrees
-- Rule sets and their blocks as the machine has them.
pub mod TermTrees
