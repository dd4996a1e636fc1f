pub mod Verdicts
pub mod Tasks
pub mod Exact
