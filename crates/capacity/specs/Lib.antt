pub mod Capacity
pub mod First
pub mod Powers
pub mod OneCapacity
pub mod Rising
