pub mod Canonical
pub mod Joined
pub mod Laws
