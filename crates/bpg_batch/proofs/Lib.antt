-- The laws of the batch.
pub mod SumLaws
pub mod OffsetLaws
pub mod EachLaws
pub mod CallLaws
pub mod FileLaws
pub mod Requirements
