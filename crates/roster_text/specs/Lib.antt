pub mod Words
pub mod Grammar
pub mod FirstFault
pub mod Reading
pub mod Io
pub mod Pieces
pub mod ReadBack
pub mod Starts
