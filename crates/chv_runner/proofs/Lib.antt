pub mod AnswerLemmas
pub mod CallLemmas
pub mod CpuLemmas
pub mod HandLemmas
pub mod OrderLemmas
pub mod PairLemmas
pub mod SealedLemmas
pub mod SliceLemmas
