pub mod Least
pub mod Keeps
pub mod Counted
pub mod Grown
pub mod Folded
pub mod Resizing
pub mod Racks
