pub mod Jobs
pub mod Steps
pub mod Runs
pub mod Ledgers
pub mod Law
pub mod Shown
