pub mod BytesLaws
pub mod HeaderLaws
