pub mod Locality
pub mod Seating
pub mod Accepted
