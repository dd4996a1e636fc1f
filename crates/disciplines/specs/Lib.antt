pub mod Chosen
pub mod Rules
pub mod Supplied
