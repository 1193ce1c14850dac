pub mod Digits
pub mod Laws
pub mod Notes
pub mod Texts
