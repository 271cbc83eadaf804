pub mod Lists
pub mod FormFacts
