pub mod ClassRuns
pub mod LineMatches
pub mod Tests
pub mod Words
pub mod laws
