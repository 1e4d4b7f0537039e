-- The types of a rule's variables.
pub mod Variables
-- Written-out expressions that are typed.
pub mod TypedWords
