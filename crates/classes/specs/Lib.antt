pub mod Classes
pub mod ClassesSaid
pub mod ClassesRoom
