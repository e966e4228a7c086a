pub mod BitLaws
pub mod ByteLaws
pub mod ChunkLaws
pub mod TestLaws
