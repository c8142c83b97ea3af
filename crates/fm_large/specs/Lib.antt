pub mod LargePerformance
