pub mod View
pub mod Elements
