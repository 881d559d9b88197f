pub mod Lines
pub mod Npalist
pub mod Code
pub mod Room
pub mod Claims
pub mod Figures
