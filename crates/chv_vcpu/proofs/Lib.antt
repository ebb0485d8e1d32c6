pub mod LabelLemmas
pub mod RunLemmas
