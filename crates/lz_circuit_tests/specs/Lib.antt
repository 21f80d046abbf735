pub mod Example
pub mod FlatExample
