pub mod Cuts
pub mod Moves
pub mod Starts
pub mod Runs
pub mod Copies
pub mod Wholes
pub mod Written
