pub mod Spreading
pub mod Placed
pub mod Charted
pub mod Choosing
