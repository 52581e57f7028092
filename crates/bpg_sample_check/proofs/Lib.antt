-- The judgement: its loops, the calls that ask for it, and the requirements.
pub mod EveryLaws
pub mod LargestLaws
pub mod DepthLaws
pub mod JudgeLaws
pub mod CallLaws
pub mod Requirements
