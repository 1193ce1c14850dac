mod DraftLemmas
mod FileLemmas
mod FlawLemmas
mod JudgeLemmas
mod LightLemmas
mod LookupLemmas
mod NamedLemmas
mod PlaceLemmas
mod RefusalLemmas
mod RunLemmas
mod SectionLemmas
mod WholeLemmas
pub mod IndexLemmas
mod InstructionLemmas
mod CursorLemmas
pub mod GoodLemmas
pub mod OneFlawLemmas
pub mod OneNoLemmas
pub mod OneOverlapLemmas
pub mod SpanCountLaws
