pub mod ByLists
