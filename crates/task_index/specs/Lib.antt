pub mod Index
pub mod Leases
pub mod Trees
