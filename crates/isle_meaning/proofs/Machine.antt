-- A machine's run of a call is its meaning.
-- Walks of trees, and what their steps bind.
pub mod Walked
-- Rows of a table, and the sites for which they stand.
pub mod RowSites
-- What is read and made is what a completion says.
pub mod Reading
-- A site that is bound holds what a completion says, and what its sort asks.
pub mod Rows
-- Where the run of a site ends, a call does.
pub mod RowEnds
-- What a term's tree binds.
pub mod Bound
-- A run takes the way that the walk takes under each completion that agrees and covers.
pub mod Walking
-- What a return binds is what its rule's right side does.
pub mod Returning
-- A run's answer is the call's meaning, by induction on the depth.
pub mod Meant
-- A call that tests ask is within a site of which a rule demands something.
pub mod Demanded
-- Where a return's run ends, it is at a call that its rule's right side asks.
pub mod Ending
-- Where a run ends unanswered, a chain of asking ends so.
pub mod Ends
-- A run reaches no more steps than the rules have constraints, and one for each rule.
pub mod Short
-- A run that isn't spent is the run at every greater depth.
pub mod Staying
-- Two runs of one call are one.
pub mod One
-- A run begins with its effects; one of a pure term with none.
pub mod Beginnings
-- Rows of a term's tree call what its rules call.
pub mod Called
-- Where no term reaches itself, no run is spent at a depth of at least the number of terms with rules.
pub mod Spending
-- A machine's run and a plain run of one call agree.
pub mod Agreeing
-- A sample that meets the premises.
pub mod Sample
-- Each tree can be walked.
pub mod Walkable
