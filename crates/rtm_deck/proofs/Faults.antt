-- The fault that the reader names is the first.
pub mod OfForm
pub mod OfNames
pub mod OwnLabels
pub mod FirstFault
