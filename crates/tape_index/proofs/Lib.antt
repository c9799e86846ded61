pub mod Alike
pub mod Runs
pub mod SizeWays
pub mod Spacing
pub mod Marks
pub mod SizeFixed
