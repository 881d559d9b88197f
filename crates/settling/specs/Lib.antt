pub mod Settling
pub mod Values
pub mod Figures
