pub mod Tables
pub mod Places
pub mod Stack
pub mod Edges
pub mod Theorems
