-- The worked campaigns: what each call answers, as the paper says it.
pub mod Table
