-- The laws of ue7(n), each proved once over the width.
pub mod Ue7Laws
pub mod Refusals
pub mod Advances
pub mod ReadAt
pub mod Reading
pub mod Places
