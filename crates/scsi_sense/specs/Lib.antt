pub mod Codes
pub mod Sense
pub mod Done
pub mod Given
pub mod Nexus
pub mod Attentions
pub mod ExamplesSense
