-- What sites are and hold, and the sites of rules.
-- Parts and subtrees of sites.
pub mod Parts
-- What holds of a rule's calls, and passes on, holds of all that follows from its demands.
pub mod Carried
-- The impure calls of a word's site are its steps', each at its place.
pub mod Steps
-- What a rule demands has no impure call.
pub mod Pure
-- What a rule demands is answered where it is covered.
pub mod Covered
-- The calls in what a rule demands are those that it has.
pub mod Had
-- The sites that a rule needs are of their kinds.
pub mod Kinded
-- So is what follows from its demands.
pub mod DerivedKinds
-- What sites of kinds hold.
pub mod HeldKinds
-- What sites hold under completions that agree.
pub mod Agreeing
-- What sites without multi calls hold, whatever multi calls are answered.
pub mod Singly
-- What a site holds is made of what its parts hold.
pub mod Made
-- Fields and contents in a right side have their tests.
pub mod OwnTests
-- A right side is what its sites say.
pub mod RightSites
-- Fields, contents and values of multi calls in what any rule demands and has.
pub mod Owned
-- What sites hold where calls are functions.
pub mod Functional
-- Contents in the multi calls of if-lets have their tests.
pub mod Opened
