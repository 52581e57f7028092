-- Application segments of JPEG: one segment, the run of EXIF, XMP and ICC, what the calls answer.
pub mod Segments
pub mod Runs
pub mod Calls
pub mod Skipping
pub mod Examples
pub mod Requirements
