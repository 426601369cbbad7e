pub mod Lawful
pub mod Placing
pub mod Planning
pub mod Writing
