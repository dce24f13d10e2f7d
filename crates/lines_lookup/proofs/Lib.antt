pub mod LookupLaws
pub mod FirstLaws
