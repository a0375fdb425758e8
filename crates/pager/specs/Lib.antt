pub mod Prepaging
pub mod Plans
pub mod Kinds
