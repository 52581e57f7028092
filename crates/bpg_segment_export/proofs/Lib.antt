-- The laws of export.
pub mod TagLaws
pub mod CallLaws
pub mod OnceLaws
pub mod Requirements
