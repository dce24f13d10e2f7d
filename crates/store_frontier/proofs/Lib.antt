pub mod FrontLaws
pub mod OntoLaws
pub mod PassLaws
