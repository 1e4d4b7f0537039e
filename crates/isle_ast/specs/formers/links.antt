pub mod Boxed
pub mod Shared
