pub mod Outside
pub mod Lives
pub mod Complete
pub mod Entry
