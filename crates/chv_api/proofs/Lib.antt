pub mod Slashes
