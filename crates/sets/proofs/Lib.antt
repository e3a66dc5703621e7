-- Sets of activities: the laws of their bits, and loops over their members.
pub mod Laws
pub mod Members
pub mod Turns
