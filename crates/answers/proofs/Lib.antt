pub mod MostLaws
