pub mod Folds
pub mod Histories
pub mod Jobs
pub mod Outcomes
pub mod Reports
pub mod Shown
pub mod Theories
pub mod TheoryReports
