pub mod Kept
pub mod Soundness
pub mod Writes
