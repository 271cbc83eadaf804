pub mod Answers
pub mod Faulted
