-- What the readers of HEVC headers answer.
pub mod Headers
pub mod BothHeaders
