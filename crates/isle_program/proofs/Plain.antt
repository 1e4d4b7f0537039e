-- Rules laid out.
pub mod LaidOut
