pub mod Histories
pub mod Fitting
