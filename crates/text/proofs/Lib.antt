pub mod DigitLaws
