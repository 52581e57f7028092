-- The laws of units and of the frames of data.
pub mod UnitLaws
pub mod Refusals
pub mod FrameLaws
pub mod SaidLaws
pub mod CountLaws
