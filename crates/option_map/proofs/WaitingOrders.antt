pub mod Asking
pub mod Kept
pub mod KeptOrders
pub mod Orders
pub mod SetPaths
