pub mod Occurrences
