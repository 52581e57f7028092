-- Laws of undoing and redoing emulation prevention.
pub mod EndingLaws
pub mod BufferLaws
pub mod CallLaws
