pub mod Acting
pub mod Choosing
pub mod Fitting
pub mod Inheriting
pub mod Landing
pub mod Making
pub mod Room
