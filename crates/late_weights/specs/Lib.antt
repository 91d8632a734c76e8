pub mod LateWeights
