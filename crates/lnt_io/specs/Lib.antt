pub mod CountedSources
pub mod FaultTexts
pub mod Files
pub mod Prefixes
pub mod IoStops
pub mod Pulling
pub mod Stopping
