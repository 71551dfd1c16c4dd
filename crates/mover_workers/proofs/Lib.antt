pub mod Placing
pub mod Stepping
pub mod Looping
pub mod Closing
pub mod Asked
