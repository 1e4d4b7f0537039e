-- What stands in an environment while definitions are read into it.
pub mod Readings
