mod TableRules
mod Tens
mod Limits
mod Casts
mod Values
mod OneForm
mod FormResults
mod Counted
mod Shifted
mod ErrorPart
mod Absorbed
mod NumberOf
mod Meanings
mod SumResults
mod ProductResults
mod LiftResults
mod Lawfulness
mod LeastZeros
mod Admissions
mod OneWritten
mod CutDigits
mod BytePatterns
pub mod TheRules
pub mod PlainValues
mod ExactNumbers
mod GrainNumbers
mod EvenTies
pub mod Precisions
