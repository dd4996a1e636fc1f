pub mod Faults
pub mod Entries
pub mod Said
pub mod Told
