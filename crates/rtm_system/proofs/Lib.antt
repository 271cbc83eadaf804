pub mod Standing
pub mod Going
pub mod Following
pub mod Firsts
pub mod Rounds
pub mod Arrivals
pub mod Arrives
pub mod Shown
