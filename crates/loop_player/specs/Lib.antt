-- The loop player.
pub mod Player
pub mod Requirements
