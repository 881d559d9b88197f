pub mod Figures
pub mod Laws
pub mod StepLaws
pub mod Claims
