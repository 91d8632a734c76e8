pub mod Edges
pub mod DeckEdges
