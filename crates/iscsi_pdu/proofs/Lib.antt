pub mod Frames
pub mod LoginHeader
pub mod R2tHeader
pub mod Cuts
pub mod Zeros
pub mod DataOuts
pub mod Fields
pub mod Joined
