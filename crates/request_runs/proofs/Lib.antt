pub mod Brokers
pub mod Stages
pub mod Steps
pub mod Rounds
pub mod Whole
pub mod Made
