pub mod Asked
pub mod Jobs
pub mod Rounds
pub mod Made
pub mod Owned
pub mod Drained
pub mod Exact
