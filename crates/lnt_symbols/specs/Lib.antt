pub mod BreakpadAnswers
pub mod BreakpadLines
pub mod Examples
pub mod FaultTexts
pub mod Laws
pub mod Pieces
pub mod Stepping
pub mod SymbolTables
