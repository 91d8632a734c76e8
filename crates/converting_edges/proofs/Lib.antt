pub mod ConvertingEdges
