pub mod ParentsLaws
pub mod RangesLaws
pub mod SiblingsLaws
pub mod FaultyLaws
pub mod Turns
