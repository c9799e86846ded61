pub mod Came
pub mod Records
pub mod MarksDone
pub mod WriteDone
pub mod ReadDone
pub mod FixedReadDone
pub mod FixedWriteDone
pub mod Trusted
