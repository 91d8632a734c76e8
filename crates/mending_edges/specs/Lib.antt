pub mod MendingEdges
