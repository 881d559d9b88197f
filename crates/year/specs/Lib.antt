pub mod Year
pub mod Claims
