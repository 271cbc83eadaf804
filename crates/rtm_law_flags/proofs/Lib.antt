pub mod Agree
pub mod Units
pub mod Shared
pub mod Commands
pub mod Once
pub mod Beginnings
pub mod Births
pub mod Names
