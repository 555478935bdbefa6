pub mod Naming
pub mod AtStage
