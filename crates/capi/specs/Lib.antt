pub mod View
pub mod Numbered
