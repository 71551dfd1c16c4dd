pub mod Carried
pub mod Changes
pub mod Excluded
pub mod Index
