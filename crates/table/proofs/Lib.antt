pub mod Partly
pub mod Phases
pub mod Shorts
pub mod Views
pub mod Lawful
