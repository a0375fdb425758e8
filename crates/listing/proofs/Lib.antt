pub mod Digits
pub mod Tables
pub mod Rows
pub mod KindBits
