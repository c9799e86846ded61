pub mod Serial
pub mod Window
pub mod WindowState
pub mod Laws
pub mod Stat
pub mod Examples
