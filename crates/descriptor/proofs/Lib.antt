pub mod LittleEndian
pub mod Storing
