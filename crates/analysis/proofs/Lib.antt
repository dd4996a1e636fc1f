pub mod Greatest
pub mod Terms
