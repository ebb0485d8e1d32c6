pub mod AnyDisk
pub mod MemDisk
