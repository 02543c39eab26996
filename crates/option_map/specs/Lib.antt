pub mod DeclaredOptions
pub mod WaitingOrders
pub mod FeatureLists
