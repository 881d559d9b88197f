pub mod Stream
pub mod Steps
pub mod Code
pub mod Claims
pub mod Figures
