-- Where the last binding of a site stands.
pub mod Indexing
-- How it is found.
pub mod Placing
-- What sites hold.
pub mod Held
-- Frames that go on.
pub mod Going
-- Frames of calls that begin.
pub mod Beginning
-- Frames that take a step, go into a check's steps, or leave steps.
pub mod Steps
-- Frames that make a check.
pub mod Checking
-- What is known of sites.
pub mod Said
-- What can be read holds something.
pub mod Known
-- What a call is given where a rule returns.
pub mod Giving
-- Frames that bind a site.
pub mod Binding
-- What a machine reads.
pub mod Reading
-- The texts of symbols.
pub mod Naming
-- When values pass tests.
pub mod Passing
-- What making a site comes to.
pub mod Making
-- Frames whose next site is made.
pub mod Turning
-- The trees of a compiled program.
pub mod Grown
-- Frames that wait for a call.
pub mod Waiting
-- Frames that go on once the sites of a place are bound.
pub mod Walking
-- What a run of a compiled program's trees tells.
pub mod Telling
