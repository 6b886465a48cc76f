pub mod Counted
pub mod OwnRows
pub mod PricedRows
pub mod RowBounds
pub mod NodeRows
pub mod WindowRows
