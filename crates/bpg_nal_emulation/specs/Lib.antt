-- Emulation prevention in NAL units.
pub mod Emulation
pub mod Endings
pub mod RoundTrips
pub mod Examples
