pub mod Backwards
pub mod Births
pub mod Before
