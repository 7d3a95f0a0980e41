pub mod StepLaws
pub mod TargetsLaws
pub mod KeyLaws
pub mod Library
