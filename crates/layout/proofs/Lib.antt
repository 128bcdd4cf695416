pub mod RangeLaws
pub mod AcsLaws
