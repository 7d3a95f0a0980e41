pub mod TargetsEntry
