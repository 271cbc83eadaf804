pub mod Faults
pub mod Input
pub mod MemSink
pub mod MemSource
pub mod Stream
pub mod StdStream
