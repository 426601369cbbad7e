pub mod Twos
pub mod Pairs
pub mod Waiting
pub mod Picking
pub mod Working
pub mod Living
