pub mod LogNames
pub mod Program
