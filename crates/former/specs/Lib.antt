-- what a reader holds against document 02: the old form, the old equivalent of a text, and the theorem
pub mod Former
pub mod SameTables
pub mod Apart
pub mod Cases
-- how it is proved
pub mod Fields
pub mod Lines
