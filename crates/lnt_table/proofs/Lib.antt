pub mod JudgedLemmas
pub mod CheckLemmas
mod LawLemmas
mod PathLemmas
pub mod UnitPathLemmas
mod WriteLemmas
pub mod OneVerdictLemmas
pub mod OneWrittenLemmas
mod AnyLawLemmas
pub mod OneCheckLemmas
pub mod OneWithinLemmas
pub mod CoveredLemmas
pub mod CoveredWholeLemmas
mod SaidLemmas
mod GroupLemmas
mod CopiesLemmas
mod AskedLemmas
mod AnyCopyLemmas
mod AnyCopyLaws
