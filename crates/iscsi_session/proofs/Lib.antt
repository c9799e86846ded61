mod Room
pub mod Taken
pub mod Kept
pub mod Standing
pub mod Accepted
pub mod Over
pub mod Moved
pub mod Parts
mod Weights
mod Holding
mod Added
pub mod AtRest
pub mod Removing
mod Ending
pub mod Telling
mod Feeding
pub mod Asking
mod Verdicts
mod Answered
pub mod Waits
pub mod Settled
pub mod Steps
pub mod Lawful
pub mod Due
pub mod Came
pub mod Calm
pub mod Runs
mod Stages
mod Unread
pub mod Tags
