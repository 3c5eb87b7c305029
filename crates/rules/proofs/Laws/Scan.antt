-- More laws of the module *Scan*.
pub mod Accept
pub mod Barred
pub mod Held
pub mod Landing
pub mod Pass
pub mod Refuse
pub mod Single
pub mod Steady
pub mod Units
pub mod Walk
