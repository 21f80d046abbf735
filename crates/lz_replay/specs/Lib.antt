pub mod Deciding
pub mod Lines
pub mod Reading
pub mod Refusals
pub mod Replays
pub mod Stands
pub mod Taking
pub mod Replaying
