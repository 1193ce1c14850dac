pub mod ByteSources
pub mod CheckVerdicts
pub mod Flat
pub mod Index
pub mod Returns
pub mod Verdicts
