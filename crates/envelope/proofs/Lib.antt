pub mod BodyLaws
pub mod EntryLaws
pub mod PlainLaws
pub mod HeaderLaws
pub mod ObjectLaws
pub mod OpenLaws
pub mod ReadLaws
pub mod RoleLaws
