pub mod Calls
pub mod Sites
pub mod Parameters
pub mod Query
pub mod ReviewPairs
pub mod Reviews
pub mod Routes
