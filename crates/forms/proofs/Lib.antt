pub mod StepLaws
pub mod TextLaws
pub mod ListedLaws
pub mod EachLaws
pub mod ArrayLaws
