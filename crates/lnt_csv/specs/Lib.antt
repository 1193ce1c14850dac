pub mod Reading
pub mod Records
