-- From cards to inputs: cutting, and that an input is a deck or has a fault.
pub mod CutCards
pub mod CutInputs
pub mod BothWays
