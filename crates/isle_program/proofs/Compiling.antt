-- The fault of the first file that has one.
pub mod FirstFaults
-- The faults of files by the layer that has them.
pub mod Layers
-- Files make one list of definitions, one environment of types and one of terms at most, so that faults refute acceptance.
pub mod OneAcceptance
-- Errors of rules: where they stand, and that rules with some aren't faultless.
pub mod RuleErrors
-- Files that are spelt one after another.
pub mod SpeltFiles
