pub mod Way
pub mod Index
pub mod Runs
pub mod SizeSpace
pub mod SizeFixed
