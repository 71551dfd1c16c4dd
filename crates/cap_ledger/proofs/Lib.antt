pub mod Changes
pub mod Find
pub mod Sorting
