pub mod Header
pub mod Open
pub mod Plain
