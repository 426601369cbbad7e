pub mod Performing
pub mod Playing
pub mod Accounts
pub mod Replays
pub mod Checks
pub mod Buffers
