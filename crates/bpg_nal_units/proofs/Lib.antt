-- The laws of the cut.
pub mod Cases
pub mod SearchLaws
pub mod CodeLaws
pub mod TrimLaws
pub mod UnitLaws
pub mod Whole
