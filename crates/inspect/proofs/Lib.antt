pub mod LookLaws
pub mod ElementLaws
pub mod AskedLaws
