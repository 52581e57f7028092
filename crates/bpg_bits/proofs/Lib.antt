-- The laws of u(n) and ue(v), each proved once over the width.
pub mod BitNumberLaws
pub mod Refusals
pub mod Advances
pub mod Items
pub mod ShortLaws
pub mod Requirements
