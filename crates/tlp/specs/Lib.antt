pub mod Form
pub mod Header
