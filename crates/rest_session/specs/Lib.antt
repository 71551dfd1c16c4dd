pub mod Calls
pub mod Reviewed
pub mod Pieces
pub mod Heard
pub mod Heals
pub mod Starts
pub mod Answered
pub mod Sessions
