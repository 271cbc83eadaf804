pub mod Complete
pub mod Saying
pub mod TooLong
pub mod Words
