pub mod Contents
pub mod FaultTexts
pub mod Files
pub mod Paths
pub mod Stepping
pub mod Tables
pub mod Walks
