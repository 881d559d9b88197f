pub mod Formats
pub mod Block
pub mod Interval
pub mod Values
pub mod Kinds
pub mod Figures
