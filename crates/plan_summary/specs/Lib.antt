pub mod Legal
pub mod Summary
