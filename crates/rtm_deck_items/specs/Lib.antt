pub mod View
pub mod Reading
pub mod Forms
pub mod Items
pub mod WellFormed
pub mod Canon
pub mod Spelling
pub mod Faults
