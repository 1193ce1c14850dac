pub mod Described
pub mod Words
