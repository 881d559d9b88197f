pub mod Event
pub mod Code
pub mod Claims
pub mod Figures
