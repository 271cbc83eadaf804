-- What the crates above lean on: what the world keeps, what an entry needs so that it can be applied, and where the
-- newest element of a list stands. Nothing here is a rule of the machine.
pub mod Soundness
pub mod Applies
pub mod Newest
