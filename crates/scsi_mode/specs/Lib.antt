pub mod ModePages
pub mod Descriptor
pub mod ModeData
pub mod ParameterList
pub mod Examples
