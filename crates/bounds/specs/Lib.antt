pub mod Interference
pub mod Least
pub mod Sums
pub mod Takings
pub mod Ceil
