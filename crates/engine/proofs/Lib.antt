pub mod Soundness
pub mod Granting
pub mod Keying
