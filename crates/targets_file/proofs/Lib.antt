pub mod ImageLaws
pub mod PlainLaws
pub mod BodyLaws
