-- What the answers about the code lean on.
pub mod Giving
pub mod Scanning
