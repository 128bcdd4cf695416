pub mod FillLaws
pub mod ListLaws
pub mod RecordLaws
pub mod StructureLaws
