pub mod LegalTrace
pub mod ProgramText
pub mod Schedule
pub mod TraceText
