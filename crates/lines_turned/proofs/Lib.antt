pub mod WriteLaws
pub mod SameLaws
pub mod TurnLaws
pub mod AskedLaws
