pub mod Asked
pub mod Tests
pub mod OneLaws
pub mod Answers
pub mod Opening
