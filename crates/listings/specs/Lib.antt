pub mod Denials
pub mod Lent
pub mod Listings
