pub mod TidyingEdges
