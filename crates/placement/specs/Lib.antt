pub mod Seatings
