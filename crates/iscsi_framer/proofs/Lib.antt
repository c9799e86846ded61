mod Split
pub mod Taking
pub mod Gathering
pub mod Fronts
pub mod Whole
