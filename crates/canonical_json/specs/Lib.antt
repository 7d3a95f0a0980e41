pub mod Options
pub mod Json
pub mod Read
pub mod Strings
pub mod Names
pub mod Rfc3629
pub mod Lead
pub mod Fields
