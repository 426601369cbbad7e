pub mod Plans
pub mod Openings
pub mod Written
