pub mod OpenLaws
pub mod PrefixLaws
pub mod PullLaws
pub mod WholeLemmas
