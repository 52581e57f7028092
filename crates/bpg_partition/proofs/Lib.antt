-- The laws of the partition.
pub mod CountLaws
pub mod PayloadLaws
pub mod RecordPayloads
pub mod CallLaws
pub mod PieceLaws
pub mod Requirements
pub mod Examples
