pub mod Handed
pub mod Memory
