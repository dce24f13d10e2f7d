pub mod ArriveLaws
pub mod ChangeLaws
pub mod RideLaws
pub mod TurnLaws
pub mod PassLaws
