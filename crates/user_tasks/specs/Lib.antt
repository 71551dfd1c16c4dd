pub mod Asks
pub mod Factors
pub mod Ids
pub mod Tasks
