-- What trees stand for is within sizes.
pub mod TypedSizes
-- So are the typed rules that definitions make, and their roots are terms with rules.
pub mod RuleSizes
-- The code's trees have the sizes of what they show.
pub mod ShownSizes
