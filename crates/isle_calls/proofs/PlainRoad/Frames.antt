-- What a rule of a call comes to.
pub mod Rules
-- What is begun: an expression, a condition, a right side.
pub mod Begun
-- The call that a rule waits for is answered, or comes to no value.
pub mod Calls
-- What changes as a driver goes on.
pub mod Driven
-- What a rule, and a frame, come to once a call is answered.
pub mod Ends
-- What is evaluated of a rule.
pub mod Evaluated
-- How a rule goes on where an expression has its value, and how the next rule is tried.
pub mod Next
-- With which effects a call has begun.
pub mod Starts
-- A right side from a place on: its impure calls, and the parts that they are.
pub mod Steps
-- What patterns that were read, and effects that were made, tell of a rule.
pub mod Told
-- A frame whose next rule is tried, or which has none left.
pub mod Tried
-- What a turn of a frame tells, and turns one after another.
pub mod Turns
-- Words that are typed among some variables are typed among more.
pub mod Words
-- A frame that waits.
pub mod Waiting
-- The plain road as a way to answer calls.
pub mod Ways
