pub mod Quotients
pub mod Differences
pub mod FormLaws
pub mod CalendarLaws
pub mod Examples
pub mod DateLaws
pub mod OrderLaws
