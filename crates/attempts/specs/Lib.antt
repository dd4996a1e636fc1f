pub mod Placing
pub mod Accepted
