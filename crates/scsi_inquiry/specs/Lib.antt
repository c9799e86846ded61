pub mod StandardData
pub mod ProductData
pub mod Luns
pub mod Examples
