pub mod OddsEdges
