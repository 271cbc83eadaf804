pub mod Stage
pub mod Counts
pub mod EventList
pub use Rattle.rtm_model.specs.Tasks
