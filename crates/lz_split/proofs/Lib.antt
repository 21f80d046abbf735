pub mod DeedsLemmas
