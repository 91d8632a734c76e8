pub mod Headed
pub mod Walking
