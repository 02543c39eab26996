pub mod Asked
pub mod Due
pub mod Held
pub mod KeptOrders
