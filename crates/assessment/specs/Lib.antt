pub mod Assessment
pub mod Values
pub mod Claims
pub mod Figures
