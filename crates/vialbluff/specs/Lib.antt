-- What the exported calls leave in the lent cells.
pub mod Cells
