pub mod MeantLaws
pub mod ListLaws
