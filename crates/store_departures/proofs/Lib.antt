pub mod CountLaws
pub mod SumLaws
pub mod PlaceLaws
pub mod LegLaws
pub mod OrderLaws
pub mod PriceLaws
