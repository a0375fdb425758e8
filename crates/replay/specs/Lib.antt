-- What the crate's own pager means.
pub mod Flush
pub mod Flushes
