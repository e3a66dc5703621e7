-- The mark of an absent activity.
pub mod Mark
