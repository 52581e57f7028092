-- The laws of the loop player, and its requirements proved.
pub mod Laws
pub mod Counting
pub mod Spans
pub mod Rounds
pub mod Times
pub mod Requirements
