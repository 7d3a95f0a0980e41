pub mod PathLaws
pub mod TableLaws
