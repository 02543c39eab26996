pub mod Judge
pub mod Driver
