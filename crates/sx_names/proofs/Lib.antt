pub mod Places
mod BindingLemmas
mod NameLemmas
mod ScopeLemmas
mod Search
