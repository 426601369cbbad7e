pub mod Backs
pub mod Windows
pub mod Ruling
