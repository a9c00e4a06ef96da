pub mod Lists
pub mod NumeralLemmas
pub mod Firsts
pub mod Members
pub mod Sends
pub mod Tables
