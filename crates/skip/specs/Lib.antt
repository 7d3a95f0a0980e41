pub mod Skim
pub mod Ends
