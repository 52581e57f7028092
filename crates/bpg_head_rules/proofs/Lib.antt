-- Laws of the head call.
pub mod CallLaws
pub mod PrefixLaws
pub mod OwnBytes
pub mod HeadRefusals
pub mod Requirements
