pub mod OddsSaid
