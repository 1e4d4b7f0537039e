-- Worked cases.
-- Types that have values, and one that has none.
pub mod TypesWithValues
