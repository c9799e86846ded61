pub mod App
pub mod Turns
pub mod Words
pub mod Help
pub mod ExamplesWords
