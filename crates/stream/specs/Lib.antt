pub mod Limits
pub mod Rooms
pub mod Making
pub mod Refusals
pub mod Faults
pub mod Shown
