pub mod Amounts
pub mod Changed
pub mod Places
pub mod Tables
pub mod Totals
