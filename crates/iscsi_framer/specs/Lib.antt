pub mod Framer
