pub mod MemManager
pub mod Told
