-- Definitions that the tests of stores cite.
pub mod Few
