-- How this crate's reader reads: words, lines and what it remembers, computed. What is read is said by Lines and Answer;
-- laws show that the reader keeps to these, so nobody has to believe what is here.
pub mod Words
pub mod Reading
pub mod Known
pub mod Labels
