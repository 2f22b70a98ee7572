pub mod Rounding
pub mod EntryTest
pub mod Entries
pub mod EverySize
pub mod Rising
