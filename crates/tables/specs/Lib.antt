pub mod Rows
pub mod Rowed
pub mod Listed
pub mod Reading
pub mod Refusals
pub mod Told
