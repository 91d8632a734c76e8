pub mod Taking
pub mod Table
pub mod Fitting
