pub mod Calendar
pub mod Parts
pub mod View
