pub mod CombinationLemmas
