pub mod Gained
mod Known
mod Pieces
