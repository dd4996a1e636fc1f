pub mod Fields
pub mod Figures
pub mod Forms
