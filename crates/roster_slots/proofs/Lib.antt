pub mod PoolLemmas
pub mod PriceLemmas
