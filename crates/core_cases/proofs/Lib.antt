pub mod Belonging
pub mod Carries
pub mod Changed
pub mod Indexed
pub mod Listed
pub mod LoadLemmas
pub mod Members
pub mod Topics
