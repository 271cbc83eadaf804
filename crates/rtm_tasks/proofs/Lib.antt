pub mod Distinct
pub mod Counting
pub mod Told
