-- What holds of the values that a simple command finds in words that it takes.
pub mod Rows
-- Terms of which no call is stuck, one by one.
pub mod Stuck
