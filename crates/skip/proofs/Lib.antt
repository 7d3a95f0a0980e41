pub mod DigitLaws
pub mod SkimLaws
pub mod StepLaws
pub mod ValueLaws
