-- Ground values: finite trees, of which different ones are never equal.
pub mod Values
-- What is asked of a term.
pub mod Terms
-- What is asked of typed patterns and expressions.
pub mod TypedTrees
-- Typed rules as definitions speak of them.
pub mod TypedRules
-- The terms and converters of an environment, by name.
pub mod Signatures
-- What the trees of a rule stand for.
pub mod Elaboration
-- The reading of a rule: what it comes to, as functions, and what its code keeps.
pub mod Readings
-- What the tables of terms and typed rules show.
pub mod Shown
-- The terms, converters and typed rules that definitions make.
pub mod Definitions
-- What a visitor of a typed rule is told, and in which order.
pub mod Visits
-- The functions of the host that stand for terms.
pub mod ExternalSigs
-- What holds of every typed rule.
pub mod SoundRules
