pub mod Texts
pub mod Reports
pub mod Reads
pub mod Judging
pub mod Judged
pub mod ConductTexts
pub mod Conducts
