pub mod DecideLaws
pub mod EgressLaws
pub mod PassLaws
