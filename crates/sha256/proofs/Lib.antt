pub mod Computing
pub mod RoundLaws
pub mod EndianLaws
pub mod BlockLaws
pub mod PaddingLaws
pub mod DigestLaws
