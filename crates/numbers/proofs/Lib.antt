pub mod Digits
pub mod Laid
pub mod NumbersLaws
