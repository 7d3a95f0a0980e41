pub mod KeyLaws
pub mod TableLaws
pub mod NamingLaws
pub mod RoleLaws
pub mod BodyLaws
pub mod FileLaws
pub mod OwnLaws
