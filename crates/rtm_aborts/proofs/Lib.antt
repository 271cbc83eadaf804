pub mod Classes
pub mod Landing
