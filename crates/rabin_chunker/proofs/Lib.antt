pub mod Algebra
pub mod TableChecks
pub mod Steps
pub mod RuleLaws
pub mod Outcome
pub mod Feeding
pub mod Scanning
pub mod Laning
