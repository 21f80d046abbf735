pub mod MarksExamples
pub mod FoldingExample
