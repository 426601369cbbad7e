pub mod Shown
pub mod Places
pub mod Words
pub mod Lines
pub mod Calls
pub mod Reading
pub mod Reader
