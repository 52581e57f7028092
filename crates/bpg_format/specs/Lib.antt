-- The BPG format: what a file is, what it is read as, what is written, and what is required of the calls.
pub mod Limits
pub mod Zero
pub mod Content
pub mod Syntax
pub mod Rules
pub mod Tests
pub mod Read
pub mod Records
pub mod Parts
pub mod Write
pub mod Pictures
pub mod Examples
-- for proofs and inner contracts: a reader of the format need not open it
pub mod FileCodec
pub mod Requirements
pub mod TagOffsets
