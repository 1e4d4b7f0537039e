-- What tables say of terms.
pub mod Terms
