-- What `bpgshow` prints.
pub mod Summary
