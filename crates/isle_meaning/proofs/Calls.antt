-- The plain run of a call is its meaning.
-- What comes after an outcome.
pub mod Outcomes
-- Values of types: what they are made of.
pub mod TypedValues
-- What words and patterns give is of their types.
pub mod Giving
-- Expressions written out are typed.
pub mod WordTyping
-- What rules and right sides give is of their types.
pub mod RuleGiving
-- What a plain run comes to is what each completion says that agrees.
pub mod Saying
-- A pattern that is tried fits under the assignments alone that have the values found.
pub mod Trying
-- Under a completion that answers what is asked, a pattern that was passed fits.
pub mod Fitting
-- A rule that is left doesn't match; one that is passed matches.
pub mod Matching
-- What a right side comes to is what it does under each completion that agrees.
pub mod Rights
-- Of rules tried in order, the one that is passed has the greatest priority of those that match.
pub mod Choosing
-- A plain run's answer is the call's meaning, by induction on the depth.
pub mod Meant
-- A call of a pure term makes no effects.
pub mod Effectless
-- A plain run begins with its effects; one of a pure term with none.
pub mod Beginnings
-- What the world answers is one thing.
pub mod Answered
-- Two plain runs of one call at one depth are one, or their effects first differ in the world's answer.
pub mod One
-- A plain run that isn't spent is the run at every greater depth.
pub mod Staying
-- Where no term reaches itself, no plain run is spent at a depth of at least the number of terms with rules.
pub mod Spending
