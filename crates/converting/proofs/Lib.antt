pub mod Stricter
pub mod Bodies
pub mod Exactly
pub mod Anew
pub mod Apart
