pub mod Giving
pub mod Adding
