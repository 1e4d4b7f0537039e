-- What holds of compiled programs and their calls.
pub mod Laws
