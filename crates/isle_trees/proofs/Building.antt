-- What the builder's code needs.
-- Members of lists.
pub mod Lists
-- Rules left in another order.
pub mod Reorder
-- Rules in order.
pub mod InOrder
-- What a test counts among them.
pub mod Search
-- The best test so far.
pub mod Best
-- A sort puts rules in order.
pub mod Ordered
-- How many rules a test may count.
pub mod Bound
-- The tests that the top rules offer.
pub mod Offers
-- Rules by what they want of a site.
pub mod Runs
-- What a path knows, as lists keep it.
pub mod Scopes
-- What is marked as available.
pub mod Marks
-- What is known past a test.
pub mod Enter
-- Sites bound in order.
pub mod Emission
-- Sites with what they are made of.
pub mod Gathering
-- Steps, arms and returns.
pub mod Sorting
-- What is left weighs less.
pub mod Weights
-- What rules' tests ask, and what tests make.
pub mod Asked
-- Rules over other values.
pub mod OtherValues
