pub mod Arguments
pub mod Values
pub mod BridgeCommand
pub mod BridgeArguments
pub mod WineravineCommand
pub mod WineravineArguments
