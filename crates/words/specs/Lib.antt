pub mod Lists
pub mod Words
pub mod Grounds
pub mod Figures
pub mod Refusals
