pub mod Demands
pub mod Proofs
pub mod Accepted
pub mod Cases
