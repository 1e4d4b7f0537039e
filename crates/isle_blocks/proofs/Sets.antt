-- Rule sets of definitions.
-- The sets of equal sites of a closed rule, site after site.
pub mod NormalSets
-- Rules of definitions at places, gathered into rule sets.
pub mod GatheredRules
-- Lists of numbers in ascending order.
pub mod ListedNumbers
-- What is gathered of a term's rules is its rule set.
pub mod DefinedSets
-- The rule sets of terms, term after term.
pub mod SetsOfTerms
-- What holds of each rule set.
pub mod SetLaws
-- Sets of equal sites taken out one by one.
pub mod ListedSets
