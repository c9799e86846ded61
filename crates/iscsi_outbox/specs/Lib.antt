pub mod Answer
pub mod Cut
pub mod Offered
pub mod Cursor
pub mod Outbox
pub mod Examples
