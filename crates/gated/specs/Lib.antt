pub mod Gates
pub mod GatesLemmas
