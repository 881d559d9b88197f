pub mod Computing
pub mod Figures
pub mod Digits
pub mod LineLaws
pub mod BlockLaws
pub mod EndLaws
pub mod Claims
