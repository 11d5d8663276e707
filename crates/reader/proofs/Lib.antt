pub mod HeadingLaws
pub mod AfterHeader
pub mod PartLaws
pub mod Papers
