pub mod Adding
pub mod Courses
pub mod Fronts
pub mod PageLaws
pub mod TrailLaws
