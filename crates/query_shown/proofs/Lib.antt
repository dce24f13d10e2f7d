pub mod PriceLaws
pub mod KeyLaws
pub mod ChooseLaws
pub mod WayLaws
