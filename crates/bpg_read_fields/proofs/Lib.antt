-- Laws of the reader of a HEVC header's fields.
pub mod AllFieldLaws
pub mod LoopLaws
pub mod GroupLaws
pub mod FlagLaws
pub mod TableLaws
