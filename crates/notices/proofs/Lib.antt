-- classes, which links a notice names, how many switches a pattern names, and what filing accepts
pub mod Classes
pub mod Sets
pub mod Named
pub mod Counted
pub mod Fit
