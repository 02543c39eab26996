pub mod Does
pub mod Driving
