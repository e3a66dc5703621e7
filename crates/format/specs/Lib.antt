-- The plan file: the forms of its lines, the text of a plan, and the plan that a text holds.
pub mod Lines
pub mod Text
pub mod Parse
