pub mod Sound
pub mod Reports
