pub mod Lists
pub mod Numbers
pub mod Forms
pub mod Starts
pub mod Once
pub mod Exact
pub mod Theorems
pub mod Examples
