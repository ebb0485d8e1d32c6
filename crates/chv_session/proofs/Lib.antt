mod TakingLemmas
mod PieceLemmas
mod FoundLemmas
mod LeavesLemmas
pub mod DeskLemmas
pub mod AskedLemmas
mod PlannedLemmas
mod StepLemmas
mod BreaksLemmas
mod CountsLemmas
mod ResultLemmas
mod ReadyLemmas
mod LeftLemmas
mod OpenLemmas
mod EndLemmas
mod SoFarLemmas
mod PutLemmas
pub mod LawLemmas
mod DrainLemmas
