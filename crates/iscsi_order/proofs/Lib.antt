pub mod Front
pub mod Serial
pub mod Held
pub mod Standing
pub mod Keys
