pub mod PlaceLemmas
pub mod PieceLemmas
