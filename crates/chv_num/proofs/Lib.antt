pub mod Values
pub mod Front
pub mod Spelling
pub mod Bases
pub mod HexSpelling
pub mod PairBytes
pub mod PairSpelling
pub mod FieldSpelling
