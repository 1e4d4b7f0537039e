-- What a typed tree is at each kind of node.
pub mod VisitTrees
-- Runs of visits of patterns and expressions, one after another.
pub mod VisitRuns
-- Runs of visits of the parts of a rule.
pub mod VisitRuleRuns
-- Variables copied to another map, entry by entry.
pub mod CopiedScopes
-- Typed trees that use only variables bound before, and terms that can be used so.
pub mod ClosedTrees
-- What trees stand for uses only variables bound before, and terms that can be used so.
pub mod ClosedReadings
-- What interned trees show.
pub mod ShownTrees
-- Runs that never answer that something isn't defined, and of whose answers something holds.
pub mod SoundRuns
-- Visits of closed patterns and expressions never come to what isn't defined.
pub mod SoundVisits
-- Visits of rules that trees stand for never come to what isn't defined.
pub mod SoundRules
