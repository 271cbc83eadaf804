pub mod Acts
pub mod Refused
pub mod View
pub use Rattle.rtm_model.specs.Chains
pub use Rattle.rtm_model.specs.Ending
pub use Rattle.rtm_model.specs.Limits
pub use Rattle.rtm_model.specs.inner.Newest
pub use Rattle.rtm_model.specs.inner.Newest
