pub mod Fault
pub mod Pairs
pub mod StringList
pub mod Reading
pub mod Cut
pub mod Laws
pub mod ExamplesPairs
pub mod ExamplesCut
