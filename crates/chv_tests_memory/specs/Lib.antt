pub mod LentZones
