pub mod AroundLemmas
pub mod EndLemmas
pub mod SeenLemmas
pub mod TrimLemmas
