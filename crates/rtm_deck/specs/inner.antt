-- How a deck is read, computed card by card. Nobody has to believe it: DeckText and IsFirstFault of rtm_deck_items say
-- which deck an input spells and what its first fault is, and what is computed here is proved to be those.
pub mod View
pub mod Roles
pub mod Seen
pub mod References
pub mod Operations
pub mod Building
pub mod Reader
