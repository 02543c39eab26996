pub mod Counts
pub mod Busy
pub mod Silent
mod Pings
mod Cuts
mod Named
mod First
mod Puts
pub mod FeatureText
pub mod Prompts
pub mod PromptCauses
