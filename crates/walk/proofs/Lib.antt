pub mod HopsLaws
pub mod TrailLaws
pub mod DownLaws
pub mod UpLaws
pub mod WayLaws
