pub mod ContentLemmas
pub mod PatchLemmas
pub mod StateLemmas
