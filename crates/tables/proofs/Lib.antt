pub mod Places
pub mod Soundness
pub mod Insertion
mod Copies
