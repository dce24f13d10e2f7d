pub mod ReachLaws
