pub mod HintLemmas
pub mod LineLemmas
pub mod NoteLemmas
pub mod TextLemmas
