-- Laws of lists of numbers, and of the records that they give.
pub mod ListLaws
pub mod StatusLaws
pub mod WriteLaws
pub mod FieldLaws
pub mod FitLaws
pub mod RecordLists
pub mod ListRecords
pub mod Theorems
