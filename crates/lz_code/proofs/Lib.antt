pub mod LaidOutLemmas
