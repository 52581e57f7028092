-- The laws of emulation prevention.
pub mod PatternLaws
pub mod WalkLaws
pub mod LengthLaws
pub mod StretchLaws
pub mod OffsetLaws
pub mod RunLaws
pub mod RoundTrips
