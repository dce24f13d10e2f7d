pub mod WordLaws
pub mod PartLaws
pub mod RideLaws
pub mod ArrivalLaws
pub mod WholeLaws
