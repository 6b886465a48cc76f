pub mod Lines
pub mod Answer
