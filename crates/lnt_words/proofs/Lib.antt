pub mod CommandLemmas
pub mod WordLemmas
pub mod RefusalLemmas
