pub mod CauseLemmas
pub mod QuestionLemmas
pub mod ReadingLemmas
pub mod RefusedLemmas
pub mod RunLemmas
pub mod StopLemmas
pub mod UpgradeLemmas
