pub mod Tables
pub mod Pagers
pub mod Hands
pub mod Laws
pub mod Policies
