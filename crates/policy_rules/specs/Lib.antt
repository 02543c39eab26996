pub mod SettingRules
pub mod ScoreRules
