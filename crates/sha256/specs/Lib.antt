pub mod Words
pub mod Constants
pub mod Compress
pub mod Message
