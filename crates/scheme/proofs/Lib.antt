pub mod Table
pub mod Steps
pub mod States
pub mod Tags
pub mod NormalTags
