pub mod Firsts
pub mod Wanted
