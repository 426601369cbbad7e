pub mod Plans
pub mod Worked
pub mod Lives
