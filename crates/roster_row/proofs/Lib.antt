pub mod OfferLemmas
pub mod RowLemmas
pub mod OffersLaws
pub mod BestLaws
pub mod RecallLaws
