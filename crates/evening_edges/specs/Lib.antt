pub mod EveningEdges
