pub mod Lists
pub mod Entries
pub mod Agree
pub mod Acts
pub mod Ended
pub mod Law
