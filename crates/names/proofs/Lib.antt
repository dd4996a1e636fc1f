pub mod Steps
pub mod RoundTrip
