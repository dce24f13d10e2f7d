pub mod RaiseLaws
pub mod JoinLaws
pub mod GroupLaws
pub mod WalkLaws
pub mod GlanceLaws
