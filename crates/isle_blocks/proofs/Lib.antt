-- The `==` of sites.
pub mod EqualSites
-- The `==` of tests.
pub mod EqualTests
-- Tests of two rules side by side.
pub mod Merging
-- The faults of rules, and their reports.
pub mod RuleFaults
-- Worked cases.
mod Cases
-- A table of sites and the sorted table of their numbers.
pub mod Numbering
-- What a rule's visit gathers.
pub mod Building
-- Tables of sites, and what is moved between them.
pub mod Rows
-- What is said of numbers is said of sites.
pub mod ClosedRules
-- More numbers than places.
pub mod Pigeonhole
-- The tests of a closed rule, site after site.
pub mod NormalTests
-- Rule sets of definitions.
pub mod Sets
-- Lists in which nothing stands twice, and how many they are.
pub mod Counting
-- A rule's equalities and tests are those of its demands, and as many.
pub mod ClosedEqualities
-- A placed rule is what follows from its demands.
pub mod Assembled
-- A rule's own sites with that of its result.
pub mod AddedRules
-- The closure of demands.
pub mod Closure
-- The multi calls of a rule, by the values of them among its sites.
pub mod MultiCalls
-- Terms of definitions have 255 arguments at most.
pub mod FewArguments
-- Sites are numbered in the order in which a rule first needs them.
pub mod SiteOrder
-- A variant that a rule makes is that of a term.
pub mod MadeVariants
-- Each variant of a term is one of its type.
pub mod VariantTerms
-- Lists with the same items as often.
pub mod SameLists
-- Rule sets as what trees speak of.
pub mod Trees
