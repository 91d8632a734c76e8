pub mod Said
pub mod Numbers
pub mod Stage
pub mod Contract
