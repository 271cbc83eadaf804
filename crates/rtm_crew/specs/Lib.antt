pub mod Histories
pub mod Region
pub use Rattle.rtm_model.specs.Legal
pub use Rattle.rtm_model.specs.Turns
pub use Rattle.rtm_board.specs.All
pub use Rattle.rtm_system.specs.Steps
pub use Rattle.rtm_system.specs.Turned
pub use Rattle.rtm_desk.specs.Told
