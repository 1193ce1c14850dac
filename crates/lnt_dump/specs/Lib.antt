pub mod Dumps
pub mod Headers
pub mod Operations
pub mod Printed
pub mod Stepping
pub mod Units
