pub mod Reviews
pub mod Step
pub mod History
pub mod Laws
pub mod Asked
pub mod Begins
