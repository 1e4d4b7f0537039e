-- Calls by trees and plain runs.
pub mod Agreeing
-- What runs say, and that each call has one.
pub mod Runs
-- What trees of compiled programs do.
pub mod Promised
