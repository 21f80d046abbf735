pub mod Programs
pub mod Grammar
pub mod Views
