pub mod SlotRuns
