pub mod Examples
pub mod Through
pub mod Rising
pub mod Numbers
