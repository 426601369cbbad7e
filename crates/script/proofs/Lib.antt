pub mod Accounting
pub mod Margins
pub mod Scripts
pub mod Sizes
pub mod Spans
pub mod Telling
pub mod Fitting
