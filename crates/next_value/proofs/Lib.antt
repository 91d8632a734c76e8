pub mod Tests
pub mod Finishing
