pub mod Following
pub mod Firsts
pub mod Rounds
pub mod Histories
