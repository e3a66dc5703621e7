-- That the definitions of specs/ are the format: a plan's text holds that plan, and what holds a plan is its text.
pub mod Tests
pub mod Laws
pub mod Values
pub mod Forms
pub mod Readers
pub mod Plans
pub mod Units
pub mod PlanLines
pub mod Tables
pub mod Short
pub mod Format
pub mod Early
pub mod Longest
