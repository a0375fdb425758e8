pub mod Serves
pub mod Ahead
pub mod Admits
pub mod Frames
