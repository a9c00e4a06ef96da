-- Definitions that only private contracts cite.
pub mod Steps
pub mod QuerySteps
pub mod BenchSteps
pub mod PieceSteps
pub mod TextSteps
pub mod PartialSteps
