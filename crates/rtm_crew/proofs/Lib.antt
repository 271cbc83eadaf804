pub mod Regions
pub mod TurnLemmas
