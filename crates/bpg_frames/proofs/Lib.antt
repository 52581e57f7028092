-- The laws of frames.
pub mod Growth
pub mod StoreLaws
pub mod CallLaws
pub mod NextFrame
pub mod AllFrames
pub mod RefusedAt
pub mod Requirements
