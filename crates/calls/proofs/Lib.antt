-- What the calls answer, from what the sweeps over all variants have kept.
pub mod Swept
pub mod Answers
pub mod Judged
