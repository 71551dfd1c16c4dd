pub mod Made
pub mod Uses
