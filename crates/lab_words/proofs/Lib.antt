pub mod AskedLemmas
pub mod RefusalLemmas
