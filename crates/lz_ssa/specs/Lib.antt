pub mod NodeValues
pub mod NodeWeight
pub mod Construction
pub mod Drafts
pub mod Assignment
