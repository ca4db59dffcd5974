pub mod EachRules
mod Words
