pub mod EntriesLemmas
pub mod EntryLemmas
pub mod KeptLemmas
pub mod ManagerLemmas
