pub mod NightEdges
