pub mod Printing
pub mod SpectatorEdges
pub mod MoveEdges
