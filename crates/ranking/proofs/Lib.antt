pub mod Tables
pub mod Lists
pub mod Stacks
pub mod Places
pub mod Settles
pub mod Passes
pub mod Edges
pub mod Inclusions
