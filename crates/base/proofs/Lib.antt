pub mod TestLaws
pub mod PlaceLaws
pub mod ByteLaws
pub mod OrderLaws
pub mod WindowLaws
pub mod HexLaws
