-- What a call tells: its effects and its answer.
pub mod Answers
-- What the host comes to.
pub mod Host
-- A call that is open.
pub mod Open
-- Where calls are answered.
pub mod States
-- What a road says of calls.
pub mod Ways
