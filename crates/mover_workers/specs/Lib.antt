pub mod Callers
pub mod Close
pub mod Since
pub mod Steps
pub mod Loops
