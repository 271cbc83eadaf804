pub mod Newest
pub mod Refused
pub use Rattle.rtm_model.specs.Chains
pub use Rattle.rtm_model.specs.Limits
pub use Rattle.rtm_model.specs.OwnChange
