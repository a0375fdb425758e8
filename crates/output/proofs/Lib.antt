pub mod Overlays
pub mod Outputs
