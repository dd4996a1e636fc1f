pub mod FirstBest
pub mod Rounds
pub mod Seats
pub mod Turns
