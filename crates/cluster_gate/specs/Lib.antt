pub mod Copies
pub mod Failing
pub mod Held
pub mod Lists
pub mod Calls
pub mod Receipts
