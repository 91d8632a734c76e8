pub mod Lists
pub mod Runs
pub mod Numbers
pub mod Values
pub mod KindLaws
pub mod StartLaws
