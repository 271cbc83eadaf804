-- What the reader keeps of the cards before, and what it says of one card.
pub mod Names
pub mod SeenCards
pub mod SeenAfter
pub mod Rules
pub mod ReadCards
pub mod ByParts
