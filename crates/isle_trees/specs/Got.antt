-- What is known of something.
-- a call that it needs isn't answered, it has no value, or it has one
pub data Got (A : Type 0) : Type 0 where
  unknown : Got A
  fails : Got A
  gives : A → Got A
