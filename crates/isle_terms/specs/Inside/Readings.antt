-- What reading a rule comes to, as functions over what is known of names.
pub mod Outcomes
pub mod RuleOutcomes
-- What reading comes to, in the words of the judgement.
pub mod Telling
-- How reading fails.
pub mod Failures
-- What definitions make known of names.
pub mod KnownBy
-- Templates with what is given for their arguments.
pub mod Frames
-- The names and variables of a rule as its reading keeps them.
pub mod Scopes
-- What a rule is read under.
pub mod Contexts
-- What the parts of a reading of expressions are cited by.
pub mod ExprReadings
-- What patterns of a rule come to under its context.
pub mod PatternReading
-- What one condition of a rule comes to.
pub mod ConditionReading
