pub mod Line
pub mod Comings
pub mod Printed
pub mod Printing
pub mod Lines
pub mod Reply
pub mod Engine
pub mod Replay
