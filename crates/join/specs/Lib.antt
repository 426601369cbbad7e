pub mod Routes
pub mod Joins
pub mod JoinsLemmas
pub mod RoutesLemmas
