pub mod Modulo
pub mod Xor
pub mod Bytes
pub mod BytesRoundTrip
pub mod Low
pub mod LowLaws
