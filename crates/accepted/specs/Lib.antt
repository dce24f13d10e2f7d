-- what a reader holds against documents 01 and 02: the theorem of question 9, and the worked cases of reading
pub mod Led
pub mod Question9
pub mod Cases
-- laws that are not of this crate's matter, and what the tests and questions say as facts
pub mod Lists
pub mod Valid
pub mod Passes
-- from accepted lines to a valid timetable
pub mod Shaped
pub mod SoFar
pub mod Kept
pub mod Sound
pub mod Changed
pub mod Extra
-- from a valid timetable to lines that are accepted
pub mod Marks
pub mod Digits
pub mod Clock
pub mod WrittenOut
pub mod LineReadBack
pub mod TextReadBack
pub mod Taken
pub mod Leads
-- between timetables and words
pub mod Spelled
pub mod Fits
pub mod OwnWords
