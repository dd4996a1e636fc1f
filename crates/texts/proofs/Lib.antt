pub mod Cuts
pub mod Numbered
