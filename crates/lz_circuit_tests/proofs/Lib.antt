pub mod ExampleLemmas
