-- The worked campaigns, proved.
pub mod Tests
pub mod Variants
pub mod Quick
pub mod Searched
pub mod Checked
pub mod Campaigns
