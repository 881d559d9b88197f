pub mod Ledger
pub mod Opening
pub mod Values
pub mod Walk
pub mod Figures
