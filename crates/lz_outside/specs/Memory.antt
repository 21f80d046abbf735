pub mod Buffer
pub mod Folder
pub mod Sink
pub mod Slots
