pub mod Rows
mod Rooms
pub mod Steps
pub mod Moments
pub mod Fronts
pub mod Goings
pub mod Keeping
pub mod Turning
pub mod Closing
pub mod Flags
pub mod Passing
mod Stalled
mod ReadSteps
