pub mod Fits
pub mod BucketStarts
pub mod Growth
pub mod Lengths
pub mod Segments
pub mod Power
pub mod Room
