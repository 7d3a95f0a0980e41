pub mod BitLaws
pub mod CountLaws
pub mod KeyLaws
