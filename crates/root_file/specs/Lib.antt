pub mod Keyids
pub mod Body
pub mod View
