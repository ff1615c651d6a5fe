pub mod Ascii
pub mod Decimal
pub mod Text
pub mod Writes
pub mod Spelling
