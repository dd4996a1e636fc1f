pub mod Empty
pub mod Sound
pub mod Plans
pub mod Figures
