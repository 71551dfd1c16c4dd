pub mod Bounds
pub mod Numbers
pub mod Sums
pub mod Stands
pub mod Accepted
pub mod Values
