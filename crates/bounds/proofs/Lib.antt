pub mod Examples
pub mod Leasts
pub mod Totals
