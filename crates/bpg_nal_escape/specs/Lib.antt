-- What undoing and redoing emulation prevention answer.
pub mod Calls
pub mod Checks
