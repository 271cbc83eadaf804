pub mod Words
pub mod Trimming
pub mod Reading
