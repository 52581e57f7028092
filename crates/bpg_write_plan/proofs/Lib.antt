-- Laws of planning.
pub mod LayoutLaws
pub mod JudgedLaws
pub mod SizeLaws
pub mod EncodedLaws
pub mod PlanLaws
