-- Expressions and rules laid out.
pub mod LaidOut
