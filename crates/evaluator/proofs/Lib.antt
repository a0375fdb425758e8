pub mod Windows
pub mod ByLetter
pub mod Loads
pub mod Guaranteed
pub mod Worked
pub mod Stores
