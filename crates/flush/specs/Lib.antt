pub mod Floor
pub mod FloorLaws
pub mod FlushKey
pub mod Hours
pub mod ByLaws
pub mod KeysApart
pub mod OneAnswer
