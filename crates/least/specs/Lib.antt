pub mod Firsts
pub mod Orders
pub mod Rankings
