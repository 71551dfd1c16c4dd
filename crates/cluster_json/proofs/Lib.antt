pub mod Fails
pub mod FileLemmas
pub mod LeadersLemmas
pub mod NamedLemmas
pub mod PlaceLemmas
