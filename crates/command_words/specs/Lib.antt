pub mod Arguments
pub mod Live
pub mod Meaning
pub mod Names
